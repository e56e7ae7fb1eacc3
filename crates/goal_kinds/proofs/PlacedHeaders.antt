-- The terms of a header's parameters are of the sorts of their places, if the header's and the given ones are.
use Rattle.std.proofs.Common.{◌≡◌, ℕ, suc, Bool, true, false, List, [], ◌∷◌, refl, sym, ap, ◌∙◌, subst}
use Rattle.std.proofs.lemmas.Bool.{false≢true}
use Rattle.goal_terms.specs.Sorts.{sort_of, sort_of_head, is_argument_sort}
use Rattle.goal_terms.specs.Tree.{Tree, Trees, node, alias, variable, none, more, list_of}
use Rattle.goal_terms.specs.declared.answers.ParamKind.{ParamKind}
use Rattle.goal_terms.specs.declared.answers.ParamKind.TheVariants as kind
use Rattle.goal_terms.specs.declared.heads.Head.{Head}
use Rattle.goal_terms.specs.declared.heads.Head.TheVariants as head
use Rattle.goal_terms.specs.declared.heads.Node.TheVariants as nodes
use Rattle.goal_terms.specs.declared.sorts.Sort.{Sort}
use Rattle.goal_terms.specs.declared.sorts.Sort.TheVariants as sorts
use Rattle.goal_terms.specs.declared.terms.AliasTermKind.{AliasTermKind}
use Rattle.goal_tables.specs.declared.rows.Tables.{Tables}
use Rattle.goal_lists.specs.Headers.{parameter_of, is_number, has_place, no_lifetime, StepInto, Part, RowPart, PartAmong, PartsFrom, AllKnown}
use Rattle.goal_lists.specs.Level.{Level, HasHeadForm}
use Rattle.goal_lists.specs.Words.{Each, Either}
use Rattle.goal_kinds.proofs.ClosedHeaders.{either-out}
use Rattle.goal_kinds.proofs.PlacedTerms.{sort_at, is_type_sort, is_clause_sort, takes, EndsAsSaid, AliasIsPlaced, IsPlaced, RowIsPlaced, IsPlacedAs, IsPlacedArgument, ArePlaced, placed-list}

-- at a level an alias of its row's kind gives a term of its own sort, and the part of a given term at the place of a parameter may be an argument
pub record KeepsPlaced (t : Tables) (L : Level) : Type 0 where
  pub gives : (k : AliasTermKind) (ts : List Tree) (u : Tree) → AliasIsPlaced t k → ArePlaced t ts → L.gives k ts u → IsPlacedAs t (sort_of (nodes.Alias k)) u
  pub part : (n : ℕ) (h g p : Tree) → IsPlaced t h → IsPlaced t g → is_argument_sort (sort_at h) ≡ is_argument_sort (sort_at g) → L.part n h g p → IsPlacedArgument t p

-- the head form of a term is of its sort
pub placed-head_form : (t : Tables) {L : Level} → KeepsPlaced t L → (u f : Tree) → IsPlaced t u → HasHeadForm L u f → IsPlacedAs t (sort_at u) f
unfolding HasHeadForm IsPlaced
placed-head_form t w (node h ts) f e x = subst (λ v. IsPlacedAs t (sort_of_head h) v) (sym x) (refl, e)
placed-head_form t w (alias k ts) f e x = w.gives k (list_of ts) f e.0 (placed-list t is_argument_sort ts e.1) x
placed-head_form t w (variable v) f e x = subst (λ y. IsPlacedAs t (sort_of (nodes.Variable v)) y) (sym x) (refl, e)

pub placed-head_form_as : (t : Tables) {L : Level} → KeepsPlaced t L → (s : Sort) (u f : Tree) → IsPlacedAs t s u → HasHeadForm L u f → IsPlacedAs t s f
placed-head_form_as t w s u f e x = let y : IsPlacedAs t (sort_at u) f = placed-head_form t w u f e.1 x in (y.0 ∙ e.0, y.1)

-- what follows from each of two claims, one of which holds by a test that is seen
either-seen : (b : Bool) {A B C : Type 0} → (b ≡ true → A → C) → (B → C) → Either b A B → C
unfolding Either
either-seen true f g h = f refl h
either-seen false f g h = g h

-- parts that one constructor takes are all arguments, or all clauses
no_argument : (s : Sort) → is_clause_sort s ≡ true → is_argument_sort s ≡ false
no_argument sorts.Ty e = absurd (false≢true e)
no_argument sorts.Const e = absurd (false≢true e)
no_argument sorts.Lifetime e = absurd (false≢true e)
no_argument sorts.Clause e = refl

pub type_argument : (s : Sort) → is_type_sort s ≡ true → is_argument_sort s ≡ true
type_argument sorts.Ty e = refl
type_argument sorts.Const e = absurd (false≢true e)
type_argument sorts.Lifetime e = absurd (false≢true e)
type_argument sorts.Clause e = absurd (false≢true e)

abbrev TakesAlike : (Sort → Bool) → Type 0
TakesAlike test = (a b : Sort) → test a ≡ true → test b ≡ true → is_argument_sort a ≡ is_argument_sort b

takes-alike : (h : Head) → TakesAlike (takes h)
unfolding takes
takes-alike (head.Dynamic n r) a b e f = no_argument a e ∙ sym (no_argument b f)
takes-alike (head.FnPtr m n q) a b e f = type_argument a e ∙ sym (type_argument b f)
takes-alike h a b e f = e ∙ sym f

-- a parameter may be an argument
parameter-argument : (n : ℕ) (h : Head) → is_number n (parameter_of h) ≡ true → is_argument_sort (sort_of_head h) ≡ true
parameter-argument n (head.TyParam m) e = refl
parameter-argument n (head.ConstParam m) e = refl
parameter-argument n h e = absurd (false≢true e)

-- what a step into a given part leads to
placed-step_into : (t : Tables) {L : Level} → KeepsPlaced t L → (h : Head) (g : Tree) {A : Trees → Type 0} {B : Tree → Type 0} {C : Type 0} →
    ((us : Trees) → RowIsPlaced t (takes h) us → A us → C) → ((f : Tree) → IsPlaced t f → is_argument_sort (sort_at g) ≡ is_argument_sort (sort_at f) → B f → C) →
    IsPlaced t g → StepInto L h A B g → C
unfolding StepInto IsPlaced
placed-step_into t w h (node k us) here below e p = here us (subst (λ j. RowIsPlaced t (takes j) us) (sym p.0) e.1) p.1
placed-step_into t w h (alias k us) here below e p =
    let f : IsPlacedAs t (sort_of (nodes.Alias k)) p.0 = w.gives k (list_of us) p.0 e.0 (placed-list t is_argument_sort us e.1) p.1 in
    below p.0 f.1 (ap is_argument_sort (sym f.0)) p.3
placed-step_into t w h (variable v) here below e p = absurd p

mutual
  unfolding Part IsPlaced

  -- the part at the first place of a parameter
  pub placed-part : (t : Tables) {L : Level} → KeepsPlaced t L → (n : ℕ) (u g p : Tree) → IsPlaced t u → IsPlaced t g →
      is_argument_sort (sort_at u) ≡ is_argument_sort (sort_at g) → Part L n u g p → IsPlacedArgument t p
  placed-part t w n (node h ts) g p e f same q =
      either-seen (is_number n (parameter_of h)) (λ seen x. subst (IsPlacedArgument t) (sym x) (sym same ∙ parameter-argument n h seen, f))
      (placed-step_into t w h g (λ us c. placed-row_part t w n (takes h) (takes-alike h) ts us p e.1 c) (λ v c s. w.part n (node h ts) v p e c (same ∙ s)) f) q
  placed-part t w n (alias k ts) g p e f same q = absurd q
  placed-part t w n (variable v) g p e f same q = absurd q

  placed-row_part : (t : Tables) {L : Level} → KeepsPlaced t L → (n : ℕ) (test : Sort → Bool) → TakesAlike test → (ts gs : Trees) (p : Tree) →
      RowIsPlaced t test ts → RowIsPlaced t test gs → RowPart L n ts gs p → IsPlacedArgument t p
  placed-row_part t w n test alike none gs p e f q = absurd q
  placed-row_part t w n test alike (more u us) none p e f q = absurd q
  placed-row_part t w n test alike (more u us) (more g gs) p e f q =
      either-out (has_place n u) (placed-part t w n u g p e.0.1 f.0.1 (alike (sort_at u) (sort_at g) e.0.0 f.0.0))
      (placed-row_part t w n test alike us gs p e.1 f.1) q

-- the part at the first place of a parameter among arguments
placed-part_among : (t : Tables) {L : Level} → KeepsPlaced t L → (n : ℕ) (hs gs : List Tree) (p : Tree) → ArePlaced t hs → ArePlaced t gs →
    PartAmong L n hs gs p → IsPlacedArgument t p
unfolding PartAmong Each
placed-part_among t w n [] gs p x y q = absurd q
placed-part_among t w n (h ∷ hs) [] p x y q = absurd q
placed-part_among t w n (h ∷ hs) (g ∷ gs) p x y q =
    either-out (has_place n h) (w.part n h g p x.0.1 y.0.1 (x.0.0 ∙ sym y.0.0)) (placed-part_among t w n hs gs p x.1 y.1) q

placed-lifetime : (t : Tables) (a : Tree) → a ≡ no_lifetime → IsPlacedArgument t a
unfolding IsPlaced EndsAsSaid
placed-lifetime t a e = subst (IsPlacedArgument t) (sym e) (refl, (tt, tt))

placed-parts_from : (t : Tables) {L : Level} → KeepsPlaced t L → (hs gs : List Tree) → ArePlaced t hs → ArePlaced t gs → (n : ℕ) (params : List ParamKind) (s : List Tree) →
    PartsFrom L hs gs n params s → ArePlaced t s
unfolding PartsFrom Each
placed-parts_from t w hs gs x y n [] [] p = tt
placed-parts_from t w hs gs x y n [] (a ∷ s) p = absurd p
placed-parts_from t w hs gs x y n (k ∷ ks) [] p = tt
placed-parts_from t w hs gs x y n (kind.Lifetime ∷ ks) (a ∷ s) p = (placed-lifetime t a p.0, placed-parts_from t w hs gs x y (suc n) ks s p.1)
placed-parts_from t w hs gs x y n (kind.Ty ∷ ks) (a ∷ s) p = (placed-part_among t w n hs gs a x y p.0, placed-parts_from t w hs gs x y (suc n) ks s p.1)
placed-parts_from t w hs gs x y n (kind.Const ∷ ks) (a ∷ s) p = (placed-part_among t w n hs gs a x y p.0, placed-parts_from t w hs gs x y (suc n) ks s p.1)

-- the terms of all parameters
pub placed-all_known : (t : Tables) {L : Level} → KeepsPlaced t L → (params : List ParamKind) (hs gs s : List Tree) → ArePlaced t hs → ArePlaced t gs →
    AllKnown L params hs gs s → ArePlaced t s
unfolding AllKnown
placed-all_known t w params hs gs s x y p = placed-parts_from t w hs gs x y 0 params s p
