-- Candidates whose terms are made for a goal: clauses of rows under arguments, what an alias adds, and errors.
use Rattle.std.proofs.Common.{◌≡◌, inr, ℕ, true, false, ◌||◌, Option, Some, List, [], ◌∷◌, ◌++◌, map, refl, sym, ap, ap₂, subst, ◌∙◌}
use Rattle.std.specs.List.{AllZip, list_any}
use Rattle.std.specs.Option.{option_map}
use Rattle.goal_terms.specs.Erased.{erased}
use Rattle.goal_terms.specs.Folding.{folded, instantiating, raised}
use Rattle.goal_terms.specs.Occurrences.{has_error}
use Rattle.goal_terms.specs.PredicateTrees.{PredicateTree, ClauseTree, holds, equals, holds_const, tree_of_kind, tree_of_whole_clause, folded_predicate, folded_clause}
use Rattle.goal_terms.specs.Tree.{Tree}
use Rattle.goal_terms.specs.TreeOf.{tree_of_arg, tree_of_alias, tree_of_ty, trees_of, at_type}
use Rattle.goal_terms.specs.declared.answers.Certainty.TheVariants as certainty
use Rattle.goal_terms.specs.declared.ids.ItemId.{ItemId}
use Rattle.goal_terms.specs.declared.ids.OpaqueId.{OpaqueId}
use Rattle.goal_terms.specs.declared.predicates.Clause.{Clause}
use Rattle.goal_terms.specs.declared.terms.AliasTerm.{AliasTerm}
use Rattle.goal_terms.specs.declared.terms.AliasTermKind.{AliasTermKind}
use Rattle.goal_terms.specs.declared.terms.AliasTermKind.TheVariants.{ProjectionTy, OpaqueTy}
use Rattle.goal_terms.specs.declared.terms.GenericArg.{GenericArg}
use Rattle.goal_terms.specs.declared.terms.GenericArg.TheVariants as arg
use Rattle.goal_terms.specs.declared.answers.TraitGoalProvenVia.{TraitGoalProvenVia}
use Rattle.goal_terms.specs.declared.answers.TraitGoalProvenVia.TheVariants as class
use Rattle.goal_terms.specs.declared.terms.Ty.{Ty}
use Rattle.goal_terms.specs.declared.terms.Ty.TheVariants as types
use Rattle.goal_tables.specs.declared.rows.Tables.{Tables}
use Rattle.goal_terms.proofs.TreeLemmas.{tree_of_ty-Alias, tree_of_arg-Ty}
use Rattle.goal_lists.specs.Answers.{erased_predicate}
use Rattle.goal_kinds.specs.CandidateRules.{GivesAs, RefutedAs, HoldsError, seen_trait, said_by}
use Rattle.goal_lists.specs.Candidates.{Candidate, assumption, implied_bound, by_impl, built_in, error}
use Rattle.goal_lists.specs.Headers.{under}
use Rattle.goal_lists.specs.Premises.{TraitTree, predicate_under}
use Rattle.goal_lists.specs.TraitGoals.{any_error}
use Rattle.goal_kinds.specs.declared.goal_kind.TraitView.{TraitView}
use Rattle.goal_kinds.specs.declared.rules.Rule.{Rule}
use Rattle.goal_lists.proofs.InstanceLemmas.{instance-depth}
use Rattle.goal_lists.proofs.UnderLemmas.{under-erased_args}
use Rattle.goal_kinds.specs.KindWords.{GoalWords, HasList}
use Rattle.goal_kinds.specs.Collecting.{bounds_of_kind, CollectsBounds, SaysTheSame, Speaks, Lacks, AreCollected, Collects}
use Rattle.goal_kinds.proofs.CollectingLemmas.{collected-append}
use Rattle.goal_lists.proofs.TermErrorLemmas.{error-erased}

-- what two options hold that are one
pub some-same : {A : Type 0} (x y : A) → Some x ≡ Some y → x ≡ y
some-same x y e = cc

-- no class is two
pub classes-differ : (c : TraitGoalProvenVia) → c ≡ class.AliasBound → c ≡ class.Misc → ⊥
classes-differ c a b = let e : class.AliasBound ≡ class.Misc = sym a ∙ b in absurd (cc)

-- a term under arguments, without lifetimes, is its instance without lifetimes, at any depth
term-under : (s : List Tree) (d : ℕ) (t : Tree) → erased (folded (instantiating s) d t) ≡ under (map erased s) t
term-under s d t = instance-depth s d 0 t ∙ sym (under-erased_args s t)

terms-under : (s : List Tree) (d : ℕ) (ts : List Tree) → map erased (map (folded (instantiating s) d) ts) ≡ map (under (map erased s)) ts
terms-under s d [] = refl
terms-under s d (t ∷ ts) = ap₂ (λ u us. u ∷ us) (term-under s d t) (terms-under s d ts)

-- so is a predicate
predicate-instance : (s : List Tree) (d : ℕ) (p : PredicateTree) → erased_predicate (folded_predicate (instantiating s) d p) ≡ predicate_under (map erased s) p
predicate-instance s d (holds i ts) = ap (λ us. holds i us) (terms-under s d ts)
predicate-instance s d (equals a t) = ap₂ (λ b u. equals b u) (term-under s d a) (term-under s d t)
predicate-instance s d (holds_const c i ts) = ap (λ us. holds_const c i us) (terms-under s d ts)

-- what a clause under arguments says
pub said-under : (s : List Tree) (a b : Clause) → tree_of_whole_clause b ≡ folded_clause (instantiating s) 0 (tree_of_whole_clause a) →
    said_by b.kind ≡ assumption (predicate_under (map erased s) (tree_of_kind a.kind))
said-under s a b e = ap (λ (c : ClauseTree). assumption (erased_predicate c.kind)) e ∙ ap assumption (predicate-instance s (raised 0 1) (tree_of_kind a.kind))

-- a copy of an alias, as an argument
pub itself-copied : (a b : AliasTerm) → tree_of_alias b ≡ tree_of_alias a → tree_of_arg (arg.Ty (types.Alias b)) ≡ tree_of_ty (types.Alias a)
itself-copied a b e = tree_of_arg-Ty (types.Alias b) ∙ tree_of_ty-Alias b ∙ ap at_type e ∙ sym (tree_of_ty-Alias a)

-- a rule that has a candidate's list, and says the same, speaks for it
pub speaks-same : (W : GoalWords) (r : Rule) (c : Candidate) → HasList W certainty.Yes c r → SaysTheSame W r c → Speaks W r c
speaks-same W r (assumption p) l h = (l, h)
speaks-same W r (implied_bound q cs) l h = (l, h)
speaks-same W r (by_impl i) l h = (l, h)
speaks-same W r built_in l h = (l, (λ n t g. ((h.0 n t).0 g).1, λ n g. (h.1 n).0 g))
speaks-same W r error l h = (l, h)

-- rules that have the lists of some candidates, and say the same, in pairs
collected-pairs : (W : GoalWords) (rs : List Rule) (cs : List Candidate) →
    AllZip (λ r c. HasList W certainty.Yes c r) rs cs → AllZip (λ r c. GivesAs W.has_term W.setting certainty.Yes (λ n t. W.gives n c t) r) rs cs →
    AllZip (λ r c. RefutedAs W.setting (λ n. W.refuted n c) r) rs cs → AreCollected (Speaks W) (Lacks W) rs cs
unfolding AreCollected
collected-pairs W [] [] l g h = refl
collected-pairs W [] (c ∷ cs) l g h = absurd g
collected-pairs W (r ∷ rs) [] l g h = absurd g
collected-pairs W (r ∷ rs) (c ∷ cs) l g h = inr (r, rs, refl, speaks-same W r c l.0 (g.0, h.0), collected-pairs W rs cs l.1 g.1 h.1)

pub collects-pairs : (W : GoalWords) (rs : List Rule) (cs : List Candidate) (before after : List Rule) → after ≡ before ++ rs →
    AllZip (λ r c. HasList W certainty.Yes c r) rs cs → AllZip (λ r c. GivesAs W.has_term W.setting certainty.Yes (λ n t. W.gives n c t) r) rs cs →
    AllZip (λ r c. RefutedAs W.setting (λ n. W.refuted n c) r) rs cs → Collects (Speaks W) (Lacks W) cs before after
collects-pairs W rs cs before after e l g h es collected =
    subst (λ xs. AreCollected (Speaks W) (Lacks W) xs (es ++ cs)) (sym e) (collected-append (Speaks W) (Lacks W) before rs es cs collected (collected-pairs W rs cs l g h))

-- errors in arguments, lifetimes aside
errors-in : (args : List GenericArg) → any_error (map erased (trees_of args)) ≡ list_any (λ a. has_error (tree_of_arg a)) args
errors-in [] = refl
errors-in (a ∷ args) = ap₂ (λ x y. x || y) (error-erased (tree_of_arg a)) (errors-in args)

-- an error stands in a goal's trait reference, or none does
pub error-stands : (asked : Option TraitTree) (v : TraitView) → option_map seen_trait (Some v) ≡ asked → list_any (λ a. has_error (tree_of_arg a)) v.args.now ≡ true → HoldsError asked
error-stands asked v e h = subst HoldsError e (errors-in v.args.now ∙ h)

pub error-stands_not : (asked : Option TraitTree) (v : TraitView) → option_map seen_trait (Some v) ≡ asked → list_any (λ a. has_error (tree_of_arg a)) v.args.now ≡ false →
    HoldsError asked → ⊥
error-stands_not asked v e h stands =
    let yes : any_error (map erased (trees_of v.args.now)) ≡ true = subst HoldsError (sym e) stands in
    let no : any_error (map erased (trees_of v.args.now)) ≡ false = errors-in v.args.now ∙ h in
    absurd (cc)

-- an alias of another kind has no bounds
pub kind-none : (t : Tables) (k : AliasTermKind) (s : List Tree) (added : List Candidate) → ((i : ItemId) → k ≡ ProjectionTy i → ⊥) → ((i : OpaqueId) → k ≡ OpaqueTy i → ⊥) →
    bounds_of_kind t k s added ≡ []
kind-none t (ProjectionTy i) s added n m = absurd (n i refl)
kind-none t (OpaqueTy i) s added n m = absurd (m i refl)
kind-none t k s added n m = refl

-- what is collected of a self type's bounds, from no rules at all
pub bounds-collected : (W : GoalWords) (added : AliasTerm → List Candidate) (t s : Ty) (before after : List Rule) → Some t ≡ Some s → before ≡ [] →
    CollectsBounds W added t before after → CollectsBounds W added s [] after
bounds-collected W added t s before after same none h =
    subst (λ u. CollectsBounds W added u [] after) (some-same t s same) (subst (λ rs. CollectsBounds W added t rs after) none h)
