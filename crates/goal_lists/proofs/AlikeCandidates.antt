-- Settings that are alike have the same candidates in each class and group, and each impl has the same more special ones.
use Rattle.std.proofs.Common.{◌≡◌, ◌==◌, ℕ, zero, suc, List, [], ◌∷◌, ◌++◌, Vec, Global, refl, sym, ap, ap₂, ◌∙◌}
use Rattle.goal_terms.specs.Tree.{Tree}
use Rattle.goal_terms.specs.declared.answers.TraitGoalProvenVia.{TraitGoalProvenVia}
use Rattle.goal_terms.specs.declared.answers.TraitGoalProvenVia.TheVariants as class
use Rattle.goal_terms.specs.declared.ids.ImplId.{ImplId}
use Rattle.goal_terms.specs.declared.ids.TraitId.{TraitId}
use Rattle.goal_terms.specs.declared.modes.TypingMode.{TypingMode}
use Rattle.goal_tables.specs.Specialized.{if_row, rows_named, listed_by_all, reached}
use Rattle.goal_tables.specs.declared.rows.ImplRow.{ImplRow}
use Rattle.goal_lists.specs.Candidates.{by_impl, built_in, error, object_bounds, environment, alias_bounds, rest, class_of, classes_before, all_candidates, second_group}
use Rattle.goal_lists.specs.Laws.{IsAlike, with_impls_and_mode}
use Rattle.goal_lists.specs.Settings.{Setting}
use Rattle.goal_lists.proofs.Members.{HasSameElements, same_elements-self, same_elements-path, same_elements-append, same_elements-filter}
use Rattle.goal_lists.proofs.OtherImpls.{other_impls-bounds_of}

-- the bounds of an alias
alike-alias_bounds : (S : Setting) (v : Vec ImplRow Global) (m : TypingMode) (s : Tree) → HasSameElements (alias_bounds S s) (alias_bounds (with_impls_and_mode S v m) s)
alike-alias_bounds S v m s = same_elements-path _ _ (sym (other_impls-bounds_of S.tables v s))

-- the impls, the built-in rules, the clauses of a `dyn` type, and errors
alike-rest : {S : Setting} {v : Vec ImplRow Global} {m : TypingMode} → IsAlike S v m → (i : TraitId) (s : Tree) →
    HasSameElements (rest S i s) (rest (with_impls_and_mode S v m) i s)
alike-rest {S} {v} a i s =
    same_elements-append _ _ _ _
    (same_elements-append _ _ _ _
    (same_elements-filter by_impl (λ r. r.trait_id.0 == i.0) S.tables.impls.items v.items (a.among, a.among_back))
    (same_elements-self (built_in ∷ object_bounds s)))
    (same_elements-self (error ∷ []))

-- the bounds and the rest
alike-bounds_and_rest : {S : Setting} {v : Vec ImplRow Global} {m : TypingMode} → IsAlike S v m → (i : TraitId) (s : Tree) →
    HasSameElements (alias_bounds S s ++ rest S i s) (alias_bounds (with_impls_and_mode S v m) s ++ rest (with_impls_and_mode S v m) i s)
alike-bounds_and_rest {S} {v} {m} a i s = same_elements-append _ _ _ _ (alike-alias_bounds S v m s) (alike-rest a i s)

-- the candidates of a class
pub alike-class_of : {S : Setting} {v : Vec ImplRow Global} {m : TypingMode} → IsAlike S v m → (i : TraitId) (s : Tree) (c : TraitGoalProvenVia) →
    HasSameElements (class_of S i s c) (class_of (with_impls_and_mode S v m) i s c)
unfolding class_of
alike-class_of {S} a i s class.ParamEnv = same_elements-self (environment S)
alike-class_of {S} {v} {m} a i s class.AliasBound = alike-alias_bounds S v m s
alike-class_of a i s class.Misc = alike-rest a i s

-- those of the classes before one
pub alike-classes_before : {S : Setting} {v : Vec ImplRow Global} {m : TypingMode} → IsAlike S v m → (i : TraitId) (s : Tree) (c : TraitGoalProvenVia) →
    HasSameElements (classes_before S i s c) (classes_before (with_impls_and_mode S v m) i s c)
unfolding classes_before
alike-classes_before a i s class.ParamEnv = same_elements-self []
alike-classes_before {S} a i s class.AliasBound = same_elements-self (environment S)
alike-classes_before {S} {v} {m} a i s class.Misc =
    same_elements-append _ _ _ _ (same_elements-self (environment S)) (alike-alias_bounds S v m s)

-- all candidates
pub alike-all_candidates : {S : Setting} {v : Vec ImplRow Global} {m : TypingMode} → IsAlike S v m → (i : TraitId) (s : Tree) →
    HasSameElements (all_candidates S i s) (all_candidates (with_impls_and_mode S v m) i s)
unfolding all_candidates
alike-all_candidates {S} {v} {m} a i s =
    same_elements-append _ _ _ _ (same_elements-append _ _ _ _ (same_elements-self (environment S)) (alike-alias_bounds S v m s)) (alike-rest a i s)

-- what is looked at after the environment
pub alike-second_group : {S : Setting} {v : Vec ImplRow Global} {m : TypingMode} → IsAlike S v m → (i : TraitId) (s : Tree) (c : TraitGoalProvenVia) →
    HasSameElements (second_group S i s c) (second_group (with_impls_and_mode S v m) i s c)
unfolding second_group
alike-second_group {S} {v} {m} a i s class.ParamEnv = alike-alias_bounds S v m s
alike-second_group {S} {v} {m} a i s class.AliasBound = alike-alias_bounds S v m s
alike-second_group a i s class.Misc = alike-bounds_and_rest a i s

-- the impls that an impl lists as more special, and those to which the lists lead
alike-rows_named : {S : Setting} {v : Vec ImplRow Global} {m : TypingMode} → IsAlike S v m → (is : List ImplId) →
    rows_named (with_impls_and_mode S v m).tables is ≡ rows_named S.tables is
unfolding rows_named
alike-rows_named a [] = refl
alike-rows_named a (i ∷ is) = ap₂ (λ o rs. if_row o ++ rs) (a.same_impl i) (alike-rows_named a is)

alike-listed_by_all : {S : Setting} {v : Vec ImplRow Global} {m : TypingMode} → IsAlike S v m → (rs : List ImplRow) →
    listed_by_all (with_impls_and_mode S v m).tables rs ≡ listed_by_all S.tables rs
unfolding listed_by_all
alike-listed_by_all a [] = refl
alike-listed_by_all a (r ∷ rs) = ap₂ (λ xs ys. xs ++ ys) (alike-rows_named a r.more_special.items) (alike-listed_by_all a rs)

pub alike-reached : {S : Setting} {v : Vec ImplRow Global} {m : TypingMode} → IsAlike S v m → (n : ℕ) (r : ImplRow) →
    reached (with_impls_and_mode S v m).tables n r ≡ reached S.tables n r
unfolding reached
alike-reached a zero r = alike-rows_named a r.more_special.items
alike-reached {S} {v} {m} a (suc n) r =
    alike-listed_by_all a (reached (with_impls_and_mode S v m).tables n r) ∙ ap (listed_by_all S.tables) (alike-reached a n r)
