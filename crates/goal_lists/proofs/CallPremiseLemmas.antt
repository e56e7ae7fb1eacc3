-- What a call asks.
use Rattle.std.proofs.Common.{◌≡◌, ◌-◌, ℕ, zero, suc, true, List, [], ◌∷◌, length, map, take, Option, Some, None, Vec, Global, refl, sym, ap, ap₂, ◌∙◌, subst, arith}
use Rattle.std.specs.Prelude.{Result, Ok, Err, IfOk}
use Rattle.std.specs.List.{All}
use Rattle.std.specs.Option.{option_map, option_and_then}
use Rattle.std.proofs.lemmas.Bool.{false≢true}
use Rattle.std.proofs.lemmas.List.{length-map, take-map}
use Rattle.std.proofs.lemmas.List.Elements.{All-take}
use Rattle.goal_terms.specs.Erased.{erased, erased_row}
use Rattle.goal_terms.specs.Sorts.{Fits, IsSort, IsArgument, Are}
use Rattle.goal_interner.specs.TableMeaning.{tree_at}
use Rattle.goal_terms.specs.Tree.{Tree, node, alias, variable, more, node_of, parts_of, forest, list_of}
use Rattle.goal_terms.specs.TreeWith.{tree_with}
use Rattle.goal_terms.specs.declared.heads.Head.TheVariants as head
use Rattle.goal_terms.specs.declared.heads.Node.{Node}
use Rattle.goal_terms.specs.declared.heads.Node.TheVariants as nodes
use Rattle.goal_terms.specs.declared.ids.TraitId.{TraitId}
use Rattle.goal_terms.specs.declared.sorts.Sort.TheVariants as sorts
use Rattle.goal_interner.specs.declared.term_nodes.OutOfMemory.{OutOfMemory}
use Rattle.goal_interner.specs.declared.term_nodes.TermId.{TermId}
use Rattle.goal_tables.specs.Rows.{lang_trait_of}
use Rattle.goal_terms.specs.declared.lang.LangItem.{LangItem}
use Rattle.goal_terms.specs.declared.lang.LangItem.TheVariants as lang
use Rattle.goal_tables.specs.declared.rows.Tables.{Tables}
use Rattle.goal_lists.specs.Builtins.{is_fn_ptr, inputs_of, output_of, call_premises, signature_of, call_rule}
use Rattle.goal_lists.specs.Candidates.{all_but_last, last_of}
use Rattle.goal_lists.specs.Interned.{erased_at, erased_all}
use Rattle.goal_lists.specs.Premises.{Premise}
use Rattle.goal_lists.proofs.RowTermLemmas.{sorts-arguments, erased_all-map}

-- the parts of a pointer are types
pub pointer-types : (u : Tree) (x : Node) → x ≡ node_of u → Fits x (parts_of u) → is_fn_ptr (erased u) ≡ true → All (IsSort sorts.Ty) (parts_of u)
unfolding erased
pointer-types (node (head.FnPtr b n q) ts) x s fits e =
    let right : Fits (nodes.Head (head.FnPtr b n q)) (list_of ts) = subst (λ y. Fits y (list_of ts)) s fits in right.1
pointer-types (node h ts) x s fits e = absurd (false≢true e)
pointer-types (alias k ts) x s fits e = absurd (false≢true e)
pointer-types (variable v) x s fits e = absurd (false≢true e)

pub pointer-arguments : (u : Tree) (x : Node) → x ≡ node_of u → Fits x (parts_of u) → is_fn_ptr (erased u) ≡ true → All IsArgument (parts_of u)
pointer-arguments u x s fits e = sorts-arguments sorts.Ty (parts_of u) refl (pointer-types u x s fits e)

-- and so are those that are read
pub read-types : (T : List Tree) (ps : List Tree) (r : Result (Vec TermId Global) OutOfMemory) → All (IsSort sorts.Ty) ps →
    IfOk r (λ ids. map (tree_at T) ids.items ≡ ps) → IfOk r (λ ids. All (IsSort sorts.Ty) (map (tree_at T) ids.items))
read-types T ps (Ok ids) h e = subst (All (IsSort sorts.Ty)) (sym e) h
read-types T ps (Err x) h e = tt

-- the inputs fit a tuple
pub inputs-fit : (T : List Tree) (all ids : List TermId) (k n : ℕ) → All (IsSort sorts.Ty) (map (tree_at T) all) → ids ≡ take k all → n ≡ length ids →
    Are (IsSort sorts.Ty) n (map (tree_at T) ids)
inputs-fit T all ids k n h e count = (
  length-map ids (tree_at T) ∙ sym count,
  subst (All (IsSort sorts.Ty)) (take-map (tree_at T) k all ∙ ap (map (tree_at T)) (sym e)) (All-take (IsSort sorts.Ty) k (map (tree_at T) all) h),
)

-- all but the last of a list
front-mapped : {A : Type 0} (f : A → Tree) (xs : List A) (k : ℕ) → k ≡ length xs - 1 → map f (take k xs) ≡ all_but_last (map f xs)
unfolding all_but_last
front-mapped f [] zero e = refl
front-mapped f [] (suc k) e = refl
front-mapped f (x ∷ []) zero e = refl
front-mapped f (x ∷ []) (suc k) e = absurd (omega arith)
front-mapped f (x ∷ y ∷ ys) zero e = absurd (omega arith)
front-mapped f (x ∷ y ∷ ys) (suc k) e = ap (λ us. f x ∷ us) (front-mapped f (y ∷ ys) k (omega arith))

-- a tuple without lifetimes
erased-forest : (ts : List Tree) → erased_row (forest ts) ≡ forest (map erased ts)
unfolding erased_row
erased-forest [] = refl
erased-forest (t ∷ ts) = ap (λ us. more (erased t) us) (erased-forest ts)

-- the inputs of a pointer
pointer-inputs : (t : Tree) → is_fn_ptr t ≡ true → node (head.Tuple (length (all_but_last (parts_of t)))) (forest (all_but_last (parts_of t))) ≡ inputs_of t
pointer-inputs (node h ts) e = refl
pointer-inputs (alias k ts) e = absurd (false≢true e)
pointer-inputs (variable v) e = absurd (false≢true e)

tuple-made : (T : List Tree) (ids : List TermId) (n : ℕ) (us : List Tree) → n ≡ length ids → erased_all T ids ≡ us →
    erased (tree_with (nodes.Head (head.Tuple n)) (map (tree_at T) ids)) ≡ node (head.Tuple (length us)) (forest us)
unfolding erased
tuple-made T ids n us count e =
    ap₂ (λ m r. node (head.Tuple m) r) (count ∙ sym (length-map ids (erased_at T)) ∙ ap length e)
    (erased-forest (map (tree_at T) ids) ∙ ap forest (sym (erased_all-map T ids) ∙ e))

pub inputs-made : (T U : List Tree) (sig : TermId) (all ids : List TermId) (k n : ℕ) → is_fn_ptr (erased_at T sig) ≡ true → erased_all T all ≡ parts_of (erased_at T sig) →
    ids ≡ take k all → k ≡ length all - 1 → n ≡ length ids → (r : Result TermId OutOfMemory) →
    IfOk r (λ id. tree_at U id ≡ tree_with (nodes.Head (head.Tuple n)) (map (tree_at T) ids)) → IfOk r (λ id. erased_at U id ≡ inputs_of (erased_at T sig))
inputs-made T U sig all ids k n pointer parts front last count (Ok id) e =
    let us : List Tree = all_but_last (parts_of (erased_at T sig)) in
    ap erased e
    ∙ tuple-made T ids n us count (ap (erased_all T) front ∙ front-mapped (erased_at T) all k last ∙ ap all_but_last parts)
    ∙ pointer-inputs (erased_at T sig) pointer
inputs-made T U sig all ids k n pointer parts front last count (Err x) e = tt

-- the output of a pointer is its last part
pub pointer-output : (t : Tree) → is_fn_ptr t ≡ true → last_of (parts_of t) ≡ output_of t
pointer-output (node h ts) e = refl
pointer-output (alias k ts) e = absurd (false≢true e)
pointer-output (variable v) e = absurd (false≢true e)

-- the rule, as far as it is known
abbrev with_sized : List Tree → Tree → Tree → Option TraitId → Option (List Premise)
with_sized args sig output o = option_map (λ sized. call_premises sized sig args output) o

abbrev with_output : Tables → List Tree → Tree → Option Tree → Option (List Premise)
with_output t args sig o = option_and_then (λ output. with_sized args sig output (lang_trait_of t lang.Sized)) o

abbrev with_signature : Tables → List Tree → Option Tree → Option (List Premise)
with_signature t args o = option_and_then (λ sig. with_output t args sig (output_of sig)) o

pub call-none : (t : Tables) (l : LangItem) (self : Tree) (args : List Tree) → None ≡ signature_of t l self → None ≡ call_rule t l self args
unfolding call_rule
call-none t l self args e = ap (with_signature t args) e

pub call-no_output : (t : Tables) (l : LangItem) (self : Tree) (args : List Tree) (sig : Tree) → Some sig ≡ signature_of t l self → None ≡ output_of sig →
    None ≡ call_rule t l self args
unfolding call_rule
call-no_output t l self args sig e f = ap (with_output t args sig) f ∙ ap (with_signature t args) e

pub call-no_sized : (t : Tables) (l : LangItem) (self : Tree) (args : List Tree) (sig output : Tree) → Some sig ≡ signature_of t l self → Some output ≡ output_of sig →
    None ≡ lang_trait_of t lang.Sized → None ≡ call_rule t l self args
unfolding call_rule
call-no_sized t l self args sig output e f g = ap (with_sized args sig output) g ∙ ap (with_output t args sig) f ∙ ap (with_signature t args) e

pub call-some : (t : Tables) (l : LangItem) (self : Tree) (args : List Tree) (sig output : Tree) (sized : TraitId) → Some sig ≡ signature_of t l self → Some output ≡ output_of sig →
    Some sized ≡ lang_trait_of t lang.Sized → Some (call_premises sized sig args output) ≡ call_rule t l self args
unfolding call_rule
call-some t l self args sig output sized e f g = ap (with_sized args sig output) g ∙ ap (with_output t args sig) f ∙ ap (with_signature t args) e
