-- The impls that are more special than that of a rule, which are asked before the rule says anything.
use Rattle.std.specs.Prelude.{◌≡◌, ◌&&◌, ℕ, Bool, true, false, List, [], ◌∷◌, map, Option, Some, None, slice_get, not, ltb}
use Rattle.std.specs.List.{list_any}
use Rattle.goal_terms.specs.Erased.{erased}
use Rattle.goal_terms.specs.TreeOf.{trees_of}
use Rattle.goal_terms.specs.declared.answers.Certainty.{Certainty}
use Rattle.goal_terms.specs.declared.answers.Certainty.TheVariants as certainty
use Rattle.goal_terms.specs.declared.answers.Response.{Response}
use Rattle.goal_terms.specs.declared.ids.ImplId.{ImplId}
use Rattle.goal_terms.specs.declared.modes.TypingMode.{TypingMode}
use Rattle.goal_terms.specs.declared.predicates.Clause.{Clause}
use Rattle.goal_terms.specs.declared.predicates.TraitRef.{TraitRef}
use Rattle.goal_terms.specs.declared.terms.GenericArg.{GenericArg}
use Rattle.goal_tables.specs.Indexed.{AreMoreSpecial}
use Rattle.goal_tables.specs.Rows.{impl_of}
use Rattle.goal_tables.specs.declared.rows.ImplRow.{ImplRow}
use Rattle.goal_tables.specs.declared.rows.Tables.{Tables}
use Rattle.goal_lists.specs.Answers.{setting_of}
use Rattle.goal_kinds.specs.CandidateRules.{refuses_impl}
use Rattle.goal_lists.specs.Candidates.{by_impl}
use Rattle.goal_lists.specs.Joined.{one_of}
use Rattle.goal_kinds.specs.RuleLists.{IsListed, list_then}
use Rattle.goal_lists.specs.Settings.{is_empty}
use Rattle.goal_lists.specs.TraitLists.{trait_list}
use Rattle.goal_lists.specs.declared.outcomes.Outcome.{Outcome}
use Rattle.goal_lists.specs.declared.outcomes.Outcome.TheVariants as outcome
use Rattle.goal_kinds.specs.declared.rules.Rule.{Rule}
use Rattle.goal_kinds.specs.declared.rules.RuleArguments.{RuleArguments}
use Rattle.goal_kinds.specs.declared.rules.RuleArguments.TheVariants as arguments
use Rattle.goal_kinds.specs.declared.rules.RuleEntry.{RuleEntry}
use Rattle.goal_kinds.specs.declared.rules.RuleEntry.TheVariants as entry
use Rattle.goal_lists.specs.declared.lists.RuleHeader.TheVariants as header
use Rattle.goal_solver.specs.OpenRuns.{RunsOpen}
use Rattle.goal_solver.specs.Refusals.{IsRefusedOpen}
use Rattle.goal_solver.specs.State.{State}
use Rattle.goal_solver.specs.declared.assembly.more_special.MatchedImpl.{MatchedImpl}

-- a rule is run, by one step for each entry: it answers a response, or none where it is refused
abbrev pub RunsAlone : List Clause → List RuleEntry → State → Option Response → State → Type 0
RunsAlone env es s (Some r) u = RunsOpen env es s u r
RunsAlone env es s None u = IsRefusedOpen env es s u

-- the impl whose header is matched first, and with what: so begins the rule of an impl
abbrev pub match_seen : MatchedImpl → ImplId × List GenericArg
match_seen m = (m.id, m.args.now)

abbrev pub impl_named : RuleArguments → Option (ImplId × List GenericArg)
impl_named (arguments.Header (header.Impl i) args) = Some (i, args.items)
impl_named _ = None

abbrev pub impl_in : RuleEntry → Option (ImplId × List GenericArg)
impl_in (entry.Arguments named) = impl_named named
impl_in _ = None

abbrev pub matched_impl : List RuleEntry → Option (ImplId × List GenericArg)
matched_impl [] = None
matched_impl (e ∷ es) = impl_in e

-- the rule by which an impl shows its own trait with some arguments; there is none where it is refused at once
abbrev pub IsTraitRule : Tables → TypingMode → List GenericArg → ImplRow → Option Rule → Type 0
IsTraitRule t m args i None = (q : TraitRef) × (trees_of q.args.items ≡ trees_of args) × (refuses_impl m q (impl_of t i.id) ≡ true)
IsTraitRule t m args i (Some r) =
    impl_of t i.id ≡ Some i → IsListed t r (list_then certainty.Yes (trait_list (setting_of t m []) i.trait_id (map erased (trees_of args)) (by_impl i)))

-- a response gives a value to a variable that was there before it
abbrev pub binds_older : Response → Bool
binds_older r = list_any (λ v. ltb v.0 r.base) r.var_values.items

-- it binds none of these, and no opaque type
abbrev pub binds_nothing : Response → Bool
binds_nothing r = not (binds_older r) && is_empty r.opaque_entries.items

-- what a run says whatever the variables stand for: it holds where it is sure and binds nothing
abbrev pub outcome_of : Certainty → Bool → Outcome
outcome_of certainty.Yes true = outcome.Holds
outcome_of certainty.Yes false = outcome.Undecided
outcome_of certainty.Maybe alone = outcome.Undecided

abbrev pub said_plainly : Option Response → Outcome
said_plainly None = outcome.Refuted
said_plainly (Some r) = outcome_of r.certainty (binds_nothing r)

-- what an impl comes to for its own trait with some arguments: its rule, if there is one, is run by itself
abbrev pub RunsIf : List Clause → Option Rule → State → Outcome → State → Type 0
RunsIf env None s o u = (o ≡ outcome.Refuted) × (u ≡ s)
RunsIf env (Some r) s o u = (a : Option Response) × RunsAlone env r.entries.items s a u × (o ≡ said_plainly a)

abbrev pub AsksImpl : List Clause → List GenericArg → ImplRow → State → Outcome → State → Type 0
AsksImpl env args i s o u = (r : Option Rule) × IsTraitRule s.tables s.typing_mode args i r × RunsIf env r s o u

-- the impls at some places are asked in order: one of them holds, or else one is undecided, or all are refuted
unfoldable pub AsksEach : Tables → List Clause → List GenericArg → List ℕ → State → Outcome → State → Type 0
AsksEach t env args [] s o u = (u ≡ s) × (o ≡ outcome.Refuted)
AsksEach t env args (p ∷ ps) s o u =
    (i : ImplRow) × (z : State) × (a : Outcome) × (b : Outcome) × (slice_get t.impls.items p ≡ Some i) × AsksImpl env args i s a z × AsksEach t env args ps z b u
    × (o ≡ one_of a b)

-- those that are more special than the impl that a rule matches, if it matches one
abbrev pub AsksMoreSpecial : List Clause → Option (ImplId × List GenericArg) → State → Outcome → State → Type 0
AsksMoreSpecial env None s o u = (o ≡ outcome.Refuted) × (u ≡ s)
AsksMoreSpecial env (Some m) s o u =
    (places : List ℕ) × ((r : ImplRow) → impl_of s.tables m.0 ≡ Some r → AreMoreSpecial s.tables r places) × AsksEach s.tables env m.1 places s o u

-- a response beside what they come to: none where one of them holds, and unsure until each is refuted
abbrev pub answer_beside : Outcome → Response → Option Response
answer_beside outcome.Refuted r = Some r
answer_beside outcome.Holds r = None
answer_beside outcome.Undecided r = Some (record r { certainty = certainty.Maybe })
