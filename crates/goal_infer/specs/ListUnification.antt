-- What unification of two lists of terms says.
use Rattle.std.specs.Prelude.{◌≡◌, ◌≢◌, ◌⊎◌, ◌&&◌, Bool, true, false, List, [], ◌∷◌, map}
use Rattle.std.specs.List.{list_any}
use Rattle.goal_terms.specs.NodeTests.{is_any_infer, some_node}
use Rattle.goal_terms.specs.Tree.{Tree}
use Rattle.goal_terms.specs.declared.answers.VarKind.{VarKind}
use Rattle.goal_terms.specs.declared.heads.Variable.{Variable}
use Rattle.goal_interner.specs.declared.term_nodes.TermId.{TermId}
use Rattle.goal_infer.specs.Inference.{Inference}
use Rattle.goal_infer.specs.Replacement.{replaced}
use Rattle.goal_infer.specs.Resolution.{term_at, resolved}
use Rattle.goal_infer.specs.Unification.{Sides, are_plain, Clash, kinds_of}
use Rattle.goal_infer.specs.declared.unify.Unified.{Unified}
use Rattle.goal_infer.specs.declared.unify.Unified.TheVariants.{Yes, Undecided, No}

-- a replacement makes two lists of terms the same, in pairs
unfoldable pub MakesAllSame : List Tree → List TermId → List TermId → (Variable → Tree) → Type 0
MakesAllSame T ls rs ρ = map (λ l. replaced ρ (term_at T l)) ls ≡ map (λ r. replaced ρ (term_at T r)) rs

-- the terms of a list after all bindings
abbrev pub all_resolved : List Tree → Inference → List TermId → List Tree
all_resolved T s ids = map (resolved T s) ids

-- whether all pairs of two lists are plain
unfoldable pub lists_are_plain : List VarKind → List Tree → List Tree → Bool
lists_are_plain ks (t ∷ ts) (u ∷ us) = are_plain ks t u && lists_are_plain ks ts us
lists_are_plain ks ts us = true

-- some pair of two lists differs for good, or the lists differ in length
unfoldable pub ListsClash : List Tree → List Tree → Type 0
ListsClash [] [] = ⊥
ListsClash [] (u ∷ us) = Unit {0}
ListsClash (t ∷ ts) [] = Unit {0}
ListsClash (t ∷ ts) (u ∷ us) = Clash t u ⊎ ListsClash ts us

-- no term of a list holds a variable
abbrev pub AllClosed : List Tree → Type 0
AllClosed ts = list_any (some_node is_any_infer) ts ≡ false

-- the answer for two lists whose pairs are all plain is a decision
unfoldable pub AreDecidedWherePlain : List Tree → Inference → List TermId → List TermId → Unified → Type 0
AreDecidedWherePlain T before ls rs u = lists_are_plain (kinds_of before) (all_resolved T before ls) (all_resolved T before rs) ≡ true → u ≢ Undecided

-- where two lists are identical already, the answer says so, and nothing happened
unfoldable pub AreIdentified : List Tree → Inference → Inference → Sides (List TermId) → Unified → Type 0
AreIdentified T before after e u = all_resolved T before e.left ≡ all_resolved T before e.right → (u ≡ Yes) × (after ≡ before)

-- where the answer is no, two lists without variables clash
unfoldable pub AreClashing : List Tree → Inference → List TermId → List TermId → Unified → Type 0
AreClashing T s ls rs u = u ≡ No → AllClosed (all_resolved T s ls) → AllClosed (all_resolved T s rs) → ListsClash (all_resolved T s ls) (all_resolved T s rs)

-- for two lists without variables nothing happens, whatever the answer
unfoldable pub AreUntouched : List Tree → Inference → Inference → List TermId → List TermId → Type 0
AreUntouched T before after ls rs = AllClosed (all_resolved T before ls) → AllClosed (all_resolved T before rs) → after ≡ before
