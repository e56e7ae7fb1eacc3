-- Arguments for a header's parameters, as far as these are known.
use Rattle.std.proofs.Common.{◌≡◌, ℕ, zero, suc, ◌+◌, ◌<◌, ◌≤◌, Bool, true, false, ◌||◌, ◌&&◌, List, [], ◌∷◌, ◌++◌, length, map, drop, take, get_or, Option, Some, None, refl, sym, ap, ap₂, ◌∙◌, subst, add-one, arith}
use Rattle.std.specs.Prelude.{Result, Ok, Err, IfOk}
use Rattle.std.specs.Option.{option_map}
use Rattle.std.proofs.lemmas.List.{drop_all, take_more}
use Rattle.std.proofs.lemmas.List.Elements.{All-head, All-tail}
use Rattle.std.proofs.lemmas.Slice.Zip.{all_zipped_more}
use Rattle.goal_terms.specs.Erased.{erased}
use Rattle.goal_terms.specs.Folding.{instance}
use Rattle.goal_terms.specs.NodeTests.{some_node}
use Rattle.goal_terms.specs.Sorts.{IsArgument}
use Rattle.goal_interner.specs.TableMeaning.{tree_at, Keeps}
use Rattle.goal_terms.specs.Tree.{Tree, node_of, parts_of}
use Rattle.goal_terms.specs.TreeOf.{trees_of, tree_of_arg, leaf}
use Rattle.goal_terms.specs.declared.answers.ParamKind.{ParamKind}
use Rattle.goal_terms.specs.declared.heads.Head.TheVariants as head
use Rattle.goal_terms.specs.declared.heads.Node.{Node}
use Rattle.goal_terms.specs.declared.node_tests.Within.TheVariants.{Everything}
use Rattle.goal_interner.specs.declared.term_nodes.TermId.{TermId}
use Rattle.goal_terms.specs.declared.terms.GenericArg.{GenericArg}
use Rattle.goal_terms.specs.declared.terms.Region.{Region}
use Rattle.goal_terms.proofs.NodeTestLemmas.{some_from, some_node-walk}
use Rattle.goal_lists.specs.Headers.{under, no_lifetime}
use Rattle.goal_lists.specs.Interned.{erased_at, erased_all, IsIn, AreIn}
use Rattle.goal_lists.proofs.InternedLemmas.{all-grow, map-same, in-grown, same-grown, all_same-grown}
use Rattle.goal_lists.proofs.UnderLemmas.{under-erased_term, under-at, instance-argument, are_in-arguments}
use Rattle.goal_eval.specs.HeaderWords.{known_trees, OptionIn, KnownIn, is_missing, is_unknown, parameter_at, IsFilled, AreFilled, is_settled, is_complete}
use Rattle.goal_eval.specs.Outcomes.{header_terms}

-- a walk over a term for a parameter that isn't known
pub unknown-here : {A : Type 0} (ks : List (Option A)) (t : Tree) (m : Node) (o : Option ℕ) (b : Bool) → m ≡ node_of t → o ≡ parameter_at m → b ≡ is_missing ks o → b ≡ true →
    true ≡ some_node (is_unknown ks) t
unknown-here ks t m o b e f s w =
    let here : is_unknown ks (node_of t) ≡ true = ap (is_unknown ks) (sym e) ∙ ap (is_missing ks) (sym f) ∙ sym s ∙ w in
    sym (some_node-walk Everything (is_unknown ks) t ∙ ap (λ x. x || some_from Everything (is_unknown ks) (parts_of t) 0) here)

pub unknown-parts : {A : Type 0} (ks : List (Option A)) (t : Tree) (m : Node) (o : Option ℕ) (b : Bool) → m ≡ node_of t → o ≡ parameter_at m → b ≡ is_missing ks o → b ≡ false →
    some_node (is_unknown ks) t ≡ some_from Everything (is_unknown ks) (parts_of t) 0
unknown-parts ks t m o b e f s w =
    let here : is_unknown ks (node_of t) ≡ false = ap (is_unknown ks) (sym e) ∙ ap (is_missing ks) (sym f) ∙ sym s ∙ w in
    some_node-walk Everything (is_unknown ks) t ∙ ap (λ x. x || some_from Everything (is_unknown ks) (parts_of t) 0) here

-- whether all parameters from a place on are known
complete-suc : {A : Type 0} (ps : List ParamKind) (os : List (Option A)) (i : ℕ) (k d : ParamKind) (e : Option A) → i < length ps → i < length os →
    is_complete (drop i ps) (drop i os) ≡ is_settled (get_or ps i d) (get_or os i e) && is_complete (drop (suc i) ps) (drop (suc i) os)
unfolding is_complete
complete-suc [] os i k d e l m = absurd (omega arith)
complete-suc (p ∷ ps) [] i k d e l m = absurd (omega arith)
complete-suc (p ∷ ps) (o ∷ os) zero k d e l m = refl
complete-suc (p ∷ ps) (o ∷ os) (suc i) k d e l m = complete-suc ps os i k d e (omega arith) (omega arith)

pub complete-more : {A : Type 0} (ps : List ParamKind) (os : List (Option A)) (i : ℕ) (d : ParamKind) (e : Option A) (b : Bool) → i < length ps → i < length os →
    is_settled (get_or ps i d) (get_or os i e) ≡ true → is_complete (drop i ps) (drop i os) ≡ b → is_complete (drop (i + 1) ps) (drop (i + 1) os) ≡ b
complete-more ps os i d e b l m s h =
    rw add-one (ap (λ x. x && is_complete (drop (suc i) ps) (drop (suc i) os)) (sym s) ∙ sym (complete-suc ps os i d d e l m) ∙ h)

pub complete-none : {A : Type 0} (ps : List ParamKind) (os : List (Option A)) (i : ℕ) (d : ParamKind) (e : Option A) (b : Bool) → i < length ps → i < length os →
    is_settled (get_or ps i d) (get_or os i e) ≡ false → is_complete (drop i ps) (drop i os) ≡ b → false ≡ b
complete-none ps os i d e b l m s h =
    ap (λ x. x && is_complete (drop (suc i) ps) (drop (suc i) os)) (sym s) ∙ sym (complete-suc ps os i d d e l m) ∙ h

complete_nothing : {A : Type 0} (ps : List ParamKind) (os : List (Option A)) → ps ≡ [] → true ≡ is_complete ps os
unfolding is_complete
complete_nothing [] os e = refl
complete_nothing (p ∷ ps) os e = absurd (cc)

pub complete-end : {A : Type 0} (ps : List ParamKind) (os : List (Option A)) (i : ℕ) (b : Bool) → length ps ≤ i → is_complete (drop i ps) (drop i os) ≡ b → true ≡ b
complete-end ps os i b l h = complete_nothing (drop i ps) (drop i os) (drop_all i ps l) ∙ h

-- what is known stays in a growing table, and stays the same
option_in-grown : (T U : List Tree) → Keeps T U → (o : Option TermId) → OptionIn T o → OptionIn U o
option_in-grown T U k None h = h
option_in-grown T U k (Some id) h = in-grown T U k id h

option_same-grown : (T U : List Tree) → Keeps T U → (o : Option TermId) → OptionIn T o → option_map (erased_at U) o ≡ option_map (erased_at T) o
option_same-grown T U k None h = refl
option_same-grown T U k (Some id) h = ap Some (same-grown T U k id h)

pub known_in-grown : (T U : List Tree) → Keeps T U → (known : List (Option TermId)) → KnownIn T known → KnownIn U known
known_in-grown T U k known h = all-grow (OptionIn T) (OptionIn U) (option_in-grown T U k) known h

pub known_same-grown : (T U : List Tree) → Keeps T U → (known : List (Option TermId)) → KnownIn T known → known_trees U known ≡ known_trees T known
known_same-grown T U k known h = map-same (OptionIn T) (option_map (erased_at U)) (option_map (erased_at T)) (option_same-grown T U k) known h

-- an argument that is a lifetime
pub lifetime-erased : (T : List Tree) (id : TermId) (r : Region) → tree_at T id ≡ leaf (head.Lifetime r) → erased_at T id ≡ no_lifetime
unfolding erased
lifetime-erased T id r e = ap erased e

-- the arguments of parameters stay so in a growing table
filled_one-grown : (T U : List Tree) → Keeps T U → (o : Option TermId) (id : TermId) → IsIn T id → IsFilled T o id → IsFilled U o id
filled_one-grown T U k None id i h = same-grown T U k id i ∙ h
filled_one-grown T U k (Some x) id i h = h

filled-grown : (T U : List Tree) → Keeps T U → (known : List (Option TermId)) (args : List TermId) → AreIn T args → AreFilled T known args → AreFilled U known args
filled-grown T U k [] [] all h = tt
filled-grown T U k [] (id ∷ args) all h = absurd h
filled-grown T U k (o ∷ known) [] all h = absurd h
filled-grown T U k (o ∷ known) (id ∷ args) all h =
    (filled_one-grown T U k o id (All-head (IsIn T) id args all) h.0, filled-grown T U k known args (All-tail (IsIn T) id args all) h.1)

-- one more argument
pub filled-more : (T U : List Tree) (known : List (Option TermId)) (args : List TermId) (i : ℕ) (d : Option TermId) (id : TermId) → Keeps T U → AreIn T args → i < length known →
    AreFilled T (take i known) args → IsFilled U (get_or known i d) id → AreFilled U (take (i + 1) known) (args ++ id ∷ [])
filled-more T U known args i d id k all l h here =
    subst (λ os. AreFilled U os (args ++ id ∷ [])) (sym (take_more known i d l))
    (all_zipped_more (IsFilled U) (take i known) args (get_or known i d) id (filled-grown T U k (take i known) args all h) here)

-- the instance of a term, by its number
pub instance-tree : (T U : List Tree) (args : List TermId) (t : Tree) (id : TermId) → tree_at U id ≡ instance (map (tree_at T) args) t →
    erased_at U id ≡ under (erased_all T args) (erased t)
instance-tree T U args t id e = ap erased e ∙ sym (under-at T args t) ∙ sym (under-erased_term (erased_all T args) t)

pub instance-in : (T U : List Tree) (args : List TermId) (t : Tree) (id : TermId) → AreIn T args → IsArgument t → id.0 < length U →
    tree_at U id ≡ instance (map (tree_at T) args) t → IsIn U id
instance-in T U args t id all a l e = (l, subst IsArgument (sym e) (instance-argument (map (tree_at T) args) (are_in-arguments T args all) t a))

-- one more instance
pub map_push : {A B : Type 0} (f : A → B) (xs : List A) (x : A) → map f (xs ++ x ∷ []) ≡ map f xs ++ f x ∷ []
map_push f [] x = refl
map_push f (y ∷ ys) x = ap (λ zs. f y ∷ zs) (map_push f ys x)

pub take_one : {A : Type 0} (xs : List A) (i : ℕ) (x : A) → i < length xs → x ≡ get_or xs i x → take (suc i) xs ≡ take i xs ++ x ∷ []
take_one [] i x l e = absurd (omega arith)
take_one (y ∷ ys) zero x l e = ap (λ z. z ∷ []) (sym e)
take_one (y ∷ ys) (suc i) x l e = ap (λ zs. y ∷ zs) (take_one ys i x (omega arith) e)

pub instances-more : (T U V : List Tree) (s : List Tree) (ids : List TermId) (id : TermId) (header : List GenericArg) (i : ℕ) (x : GenericArg) →
    Keeps U V → AreIn U ids → erased_all U ids ≡ map (under s) (header_terms (take i header)) → i < length header → x ≡ get_or header i x →
    erased_at V id ≡ under s (erased (tree_of_arg x)) → erased_all V (ids ++ id ∷ []) ≡ map (under s) (header_terms (take (i + 1) header))
instances-more T U V s ids id header i x keeps all so_far l e here =
    map_push (erased_at V) ids id
    ∙ ap₂ (λ ts t. ts ++ t ∷ []) (all_same-grown U V keeps ids all ∙ so_far) here
    ∙ sym (map_push (under s) (header_terms (take i header)) (erased (tree_of_arg x)))
    ∙ ap (map (under s)) (sym (map_push erased (trees_of (take i header)) (tree_of_arg x)) ∙ ap (map erased) (sym (map_push tree_of_arg (take i header) x)))
    ∙ ap (λ hs. map (under s) (header_terms hs)) (sym (rw add-one (take_one header i x l e)))

-- what two facts of a result that isn't refused say together
pub ok-with : {A E : Type 0} {P Q R : A → Type 0} (r : Result A E) → IfOk r P → IfOk r Q → ((x : A) → P x → Q x → R x) → IfOk r R
ok-with (Ok x) p q f = f x p q
ok-with (Err e) p q f = p
