-- What a comparison of terms leaves to be compared.
use Rattle.std.specs.Prelude.{◌≡◌, ◌≢◌, ◌<◌, ◌⊎◌, ◌↔◌, ◌||◌, ℕ, Bool, true, false, List, length}
use Rattle.std.specs.List.{All}
use Rattle.goal_terms.specs.Sorts.{sort_of, is_argument_sort}
use Rattle.goal_interner.specs.TableMeaning.{tree_at}
use Rattle.goal_terms.specs.Tree.{Tree, node_of, parts_of}
use Rattle.goal_terms.specs.declared.heads.Head.{Head}
use Rattle.goal_terms.specs.declared.heads.Node.{Node}
use Rattle.goal_terms.specs.declared.heads.Node.TheVariants as nodes
use Rattle.goal_interner.specs.declared.term_nodes.TermId.{TermId}
use Rattle.goal_lists.specs.Interned.{IsIn, erased_at}
use Rattle.goal_lists.specs.Level.{Level}
use Rattle.goal_lists.specs.Levels.{level}
use Rattle.goal_lists.specs.Settings.{Setting}
use Rattle.goal_lists.specs.Words.{Each, Exists}
use Rattle.goal_eval.specs.Outcomes.{Says}
use Rattle.goal_eval.specs.declared.eval.outcomes.Found.{Found}
use Rattle.goal_eval.specs.declared.eval.outcomes.Found.TheVariants as found
use Rattle.goal_lists.specs.declared.outcomes.Outcome.{Outcome}
use Rattle.goal_lists.specs.declared.outcomes.Outcome.TheVariants.{Holds, Refuted, Undecided}
use Rattle.goal_eval.specs.declared.relate.pairs.Pending.{Pending}
use Rattle.goal_eval.specs.declared.relate.pairs.Forms as forms
use Rattle.goal_eval.specs.declared.relate.pairs.Forms.TheVariants as form
use Rattle.goal_eval.specs.declared.relate.pairs.TermPair.{TermPair}
use Rattle.goal_eval.specs.declared.relate.pairs.Tops as tops
use Rattle.goal_eval.specs.declared.relate.pairs.Tops.TheVariants as top

-- the head forms of two terms, from what is found of each; else one that is refuted decides
abbrev pub forms_of : Found → Found → forms.Forms
forms_of (found.Is f) (found.Is g) = form.Found f g
forms_of found.Refuted g = form.Lacking Refuted
forms_of (found.Is f) found.Refuted = form.Lacking Refuted
forms_of (found.Is f) found.Undecided = form.Lacking Undecided
forms_of found.Undecided found.Refuted = form.Lacking Refuted
forms_of found.Undecided (found.Is g) = form.Lacking Undecided
forms_of found.Undecided found.Undecided = form.Lacking Undecided

-- an outcome says that a question holds
abbrev pub Stands : Outcome → Type 0
Stands Holds = Unit {0}
Stands Refuted = ⊥
Stands Undecided = ⊥

-- an outcome says that a question is refuted
abbrev pub Fails : Outcome → Type 0
Fails Holds = ⊥
Fails Refuted = Unit {0}
Fails Undecided = ⊥

-- what stands at the top
abbrev pub is_alias : Node → Bool
is_alias (nodes.Alias k) = true
is_alias (nodes.Head h) = false
is_alias (nodes.Variable v) = false

abbrev pub is_variable : Node → Bool
is_variable (nodes.Variable v) = true
is_variable (nodes.Head h) = false
is_variable (nodes.Alias k) = false

-- an argument or, where the test is false, a clause
abbrev pub IsOfSort : Bool → Tree → Type 0
IsOfSort b t = is_argument_sort (sort_of (node_of t)) ≡ b

-- a term of the table that is one
abbrev pub IsOfKind : List Tree → Bool → TermId → Type 0
IsOfKind T b id = (id.0 < length T) × IsOfSort b (tree_at T id)

-- two terms of the table that are both arguments, or both clauses
abbrev pub AreOfOneKind : List Tree → TermId → TermId → Type 0
AreOfOneKind T l r = (b : Bool) × IsOfKind T b l × IsOfKind T b r

-- two lists whose terms are all arguments, or all clauses
abbrev pub AreListsOfOneKind : List Tree → List TermId → List TermId → Type 0
AreListsOfOneKind T ls rs = (b : Bool) × All (IsOfKind T b) ls × All (IsOfKind T b) rs

-- two terms are not the same, and one is an alias
abbrev pub NeedForms : Tree → Tree → Type 0
NeedForms t u = (is_alias (node_of t) || is_alias (node_of u) ≡ true) × (t ≢ u)

-- the parts of two terms are all arguments, or all clauses
abbrev pub HavePartsOfOneKind : Tree → Tree → Type 0
HavePartsOfOneKind t u = (b : Bool) × All (IsOfSort b) (parts_of t) × All (IsOfSort b) (parts_of u)

-- two terms have one constructor
abbrev pub HaveOneHead : Tree → Tree → Type 0
HaveOneHead t u = (h : Head) × (node_of t ≡ nodes.Head h) × (node_of u ≡ nodes.Head h)

-- a pair of arguments, of which one is an alias, that aren't the same
abbrev pub IsOpen : List Tree → TermPair → Type 0
IsOpen T p = IsIn T p.left × IsIn T p.right × NeedForms (erased_at T p.left) (erased_at T p.right)

-- what the tops of two terms say
abbrev pub TopsSay : List Tree → TermId → TermId → tops.Tops → Type 0
TopsSay T l r (top.Settled o) =
    (S : Setting) (n : ℕ) → Says ((level S n).equal (erased_at T l) (erased_at T r)) ((level S n).unequal (erased_at T l) (erased_at T r)) o
TopsSay T l r top.NeedForms = NeedForms (erased_at T l) (erased_at T r)
TopsSay T l r top.NeedParts = HaveOneHead (erased_at T l) (erased_at T r) × HavePartsOfOneKind (tree_at T l) (tree_at T r)

-- the terms of a pair are related
abbrev pub Relates : (Tree → Tree → Type 0) → List Tree → TermPair → Type 0
Relates R T p = R (erased_at T p.left) (erased_at T p.right)

-- all that is left of a question holds: the outcome so far stands, and the terms of each pair are equal
abbrev pub AllEqual : Level → List Tree → Outcome → List TermPair → Type 0
AllEqual L T o ps = Stands o × Each (Relates L.equal T) ps

-- something that is left of a question is refuted
abbrev pub SomeUnequal : Level → List Tree → Outcome → List TermPair → Type 0
SomeUnequal L T o ps = Fails o ⊎ Exists (Relates L.unequal T) ps

-- whether all that is left of a comparison holds
abbrev pub SaysPending : Level → List Tree → Pending → Outcome → Type 0
SaysPending L T p = Says (AllEqual L T p.outcome p.pairs.items) (SomeUnequal L T p.outcome p.pairs.items)

-- a question was added: what is left now holds where what was left and the question hold, and is refuted where one of them is
abbrev pub Adds : List Tree → Pending → Pending → (Level → Type 0) → (Level → Type 0) → Type 0
Adds T old new P R =
    (S : Setting) (n : ℕ)
    → ((AllEqual (level S n) T old.outcome old.pairs.items × P (level S n)) ↔ AllEqual (level S n) T new.outcome new.pairs.items)
    × ((SomeUnequal (level S n) T old.outcome old.pairs.items ⊎ R (level S n)) ↔ SomeUnequal (level S n) T new.outcome new.pairs.items)
