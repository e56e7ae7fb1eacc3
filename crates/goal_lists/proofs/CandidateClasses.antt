-- Lists of candidates, put together.
use Rattle.std.proofs.Common.{◌≡◌, ◌≢◌, List, [], ◌∷◌, ◌++◌, map, filter, refl, sym, ap, ◌∙◌, append_assoc}
use Rattle.std.proofs.lemmas.List.Elements.{filter-append}
use Rattle.goal_terms.specs.Tree.{Tree}
use Rattle.goal_terms.specs.declared.answers.TraitGoalProvenVia.{TraitGoalProvenVia}
use Rattle.goal_terms.specs.declared.answers.TraitGoalProvenVia.TheVariants as class
use Rattle.goal_terms.specs.declared.ids.TraitId.{TraitId}
use Rattle.goal_lists.specs.Candidates.{Candidate, by_impl, built_in, error, impls_for, environment, alias_bounds, object_bounds, rest, class_of, second_group}
use Rattle.goal_lists.specs.Fitting.{may_fit, fitting, About, near, class_fitting}
use Rattle.goal_lists.specs.Interned.{candidate_at}
use Rattle.goal_lists.specs.Settings.{Setting}
use Rattle.goal_lists.specs.declared.candidates.interned.InternedCandidate.{InternedCandidate}
use Rattle.goal_lists.proofs.FittingLemmas.{fitting-bounds, fitting-rest}

-- the rest, one after the other
pub rest-made : (args : List Tree) (S : Setting) (i : TraitId) (s : Tree) (front impls with_rule with_objects all : List Candidate) →
    impls ≡ front ++ fitting args (map by_impl (impls_for S.tables i)) → with_rule ≡ impls ++ built_in ∷ [] → with_objects ≡ with_rule ++ object_bounds s →
    all ≡ with_objects ++ error ∷ [] → all ≡ front ++ fitting args (rest S i s)
rest-made args S i s front impls with_rule with_objects all a b c d =
    let is : List Candidate = fitting args (map by_impl (impls_for S.tables i)) in
    let os : List Candidate = object_bounds s in
    d ∙ ap (λ cs. cs ++ error ∷ [])
    (c ∙ ap (λ cs. cs ++ os) (b ∙ ap (λ cs. cs ++ built_in ∷ []) a)
    ∙ append_assoc (front ++ is) (built_in ∷ []) os
    ∙ append_assoc front is (built_in ∷ os))
    ∙ append_assoc front (is ++ built_in ∷ os) (error ∷ [])
    ∙ ap (λ cs. front ++ cs) (sym (fitting-rest args S i s))

-- a list that began without elements
pub from-nothing : (T : List Tree) (found : List InternedCandidate) (all more : List Candidate) → found ≡ [] → all ≡ map (candidate_at T) found ++ more → all ≡ more
from-nothing T found all more e so = so ∙ ap (λ xs. map (candidate_at T) xs ++ more) e

-- the classes
pub class-environment : (S : Setting) (s : Tree) (a : About) (c : TraitGoalProvenVia) → c ≡ class.ParamEnv → filter (near a) (environment S) ≡ class_fitting S s a c
unfolding class_of
class-environment S s a c e = ap (class_fitting S s a) (sym e)

pub class-bounds : (S : Setting) (s : Tree) (a : About) (c : TraitGoalProvenVia) → c ≡ class.AliasBound → alias_bounds S s ≡ class_fitting S s a c
unfolding class_of
class-bounds S s a c e = sym (fitting-bounds a.args S s) ∙ ap (class_fitting S s a) (sym e)

pub class-rest : (S : Setting) (s : Tree) (a : About) (c : TraitGoalProvenVia) → c ≡ class.Misc → fitting a.args (rest S a.trait_id s) ≡ class_fitting S s a c
unfolding class_of
class-rest S s a c e = ap (class_fitting S s a) (sym e)

-- the second group
pub group-rest : (args : List Tree) (S : Setting) (i : TraitId) (s : Tree) (c : TraitGoalProvenVia) → c ≡ class.Misc →
    alias_bounds S s ++ fitting args (rest S i s) ≡ fitting args (second_group S i s c)
unfolding second_group
group-rest args S i s c e =
    ap (λ cs. cs ++ fitting args (rest S i s)) (sym (fitting-bounds args S s)) ∙ sym (filter-append (may_fit args) (alias_bounds S s) (rest S i s))
    ∙ ap (λ k. fitting args (second_group S i s k)) (sym e)

pub group-bounds : (args : List Tree) (S : Setting) (i : TraitId) (s : Tree) (c : TraitGoalProvenVia) → c ≢ class.Misc → alias_bounds S s ≡ fitting args (second_group S i s c)
unfolding second_group
group-bounds args S i s class.ParamEnv n = sym (fitting-bounds args S s)
group-bounds args S i s class.AliasBound n = sym (fitting-bounds args S s)
group-bounds args S i s class.Misc n = absurd (n refl)
