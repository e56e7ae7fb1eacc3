-- Faults of terms, part by part.
use Rattle.std.proofs.Common.{◌≡◌, ℕ, zero, suc, ◌+◌, Bool, true, false, List, [], ◌∷◌, length, drop, Some, refl, sym, ap, ◌∙◌, add-one, arith}
use Rattle.std.specs.Prelude.{slice_get, ◌||◌}
use Rattle.std.specs.List.{list_any}
use Rattle.std.proofs.lemmas.List.{drop_all}
use Rattle.goal_terms.specs.Tree.{Tree, Trees, node, alias, variable, none, more, parts_of, list_of}
use Rattle.goal_terms.specs.declared.answers.ParamKind.{ParamKind}
use Rattle.goal_terms.proofs.WalkLemmas.{tree_size-part}
use Rattle.goal_tables.specs.Sites.{lies_here, lies_in, lies_in_row}
use Rattle.goal_tables.specs.declared.faults.TermFault as faults
use Rattle.goal_tables.specs.declared.rows.Tables.{Tables}

-- whether a fault lies in one of the parts from a place on
unfoldable pub lies_from : Tables → List ParamKind → faults.TermFault → List Tree → ℕ → Bool
lies_from t ps f ts i = list_any (λ u. lies_in t ps f u) (drop i ts)

lies_from-step : (t : Tables) (ps : List ParamKind) (f : faults.TermFault) (ts : List Tree) (i : ℕ) (u : Tree) → slice_get ts i ≡ Some u →
    lies_from t ps f ts i ≡ lies_in t ps f u || lies_from t ps f ts (suc i)
unfolding lies_from
lies_from-step t ps f [] i u e = absurd (cc)
lies_from-step t ps f (x ∷ ts) zero u e = let p : x ≡ u = cc in ap (λ w. lies_in t ps f w || list_any (λ u. lies_in t ps f u) ts) p
lies_from-step t ps f (x ∷ ts) (suc i) u e = lies_from-step t ps f ts i u e

pub lies_from-more : (t : Tables) (ps : List ParamKind) (f : faults.TermFault) (ts : List Tree) (i : ℕ) (u : Tree) (b : Bool) →
    slice_get ts i ≡ Some u → lies_in t ps f u ≡ false → lies_from t ps f ts i ≡ b → lies_from t ps f ts (i + 1) ≡ b
lies_from-more t ps f ts i u b e h k = rw add-one (ap (λ w. w || lies_from t ps f ts (suc i)) (sym h) ∙ sym (lies_from-step t ps f ts i u e) ∙ k)

pub lies_from-found : (t : Tables) (ps : List ParamKind) (f : faults.TermFault) (ts : List Tree) (i : ℕ) (u : Tree) (b : Bool) →
    slice_get ts i ≡ Some u → lies_in t ps f u ≡ true → lies_from t ps f ts i ≡ b → b ≡ true
lies_from-found t ps f ts i u b e h k = sym k ∙ lies_from-step t ps f ts i u e ∙ ap (λ w. w || lies_from t ps f ts (suc i)) h

pub lies_from-end : (t : Tables) (ps : List ParamKind) (f : faults.TermFault) (ts : List Tree) (i : ℕ) → length ts ≡ i → lies_from t ps f ts i ≡ false
unfolding lies_from
lies_from-end t ps f ts i e = let p : drop i ts ≡ [] = drop_all i ts (omega arith) in ap (list_any (λ u. lies_in t ps f u)) p

lies_in_row-list : (t : Tables) (ps : List ParamKind) (f : faults.TermFault) (ts : Trees) → lies_in_row t ps f ts ≡ list_any (λ u. lies_in t ps f u) (list_of ts)
unfolding lies_in
lies_in_row-list t ps f none = refl
lies_in_row-list t ps f (more u us) = ap (λ b. lies_in t ps f u || b) (lies_in_row-list t ps f us)

or_false : (b : Bool) → b ≡ b || false
or_false true = refl
or_false false = refl

pub lies_in-walk : (t : Tables) (ps : List ParamKind) (f : faults.TermFault) (u : Tree) → lies_in t ps f u ≡ lies_here t ps f u || lies_from t ps f (parts_of u) 0
unfolding lies_in lies_from
lies_in-walk t ps f (node h ts) = ap (λ b. lies_here t ps f (node h ts) || b) (lies_in_row-list t ps f ts)
lies_in-walk t ps f (alias k ts) = ap (λ b. lies_here t ps f (alias k ts) || b) (lies_in_row-list t ps f ts)
lies_in-walk t ps f (variable v) = or_false (lies_here t ps f (variable v))

pub ruleset lying = (lies_in-walk, lies_from-more, lies_from-found, lies_from-end, tree_size-part)
