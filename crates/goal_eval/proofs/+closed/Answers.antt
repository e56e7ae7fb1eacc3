use Rattle.goal_eval.proofs.OpaqueTypeLemmas.{args-undecided, args-unformed, behind-in, bounds-refuted, bounds-say, checked-says, found_where-in}
use Rattle.goal_eval.specs.OpaqueTypes.{SaysChecked}
use Rattle.goal_lists.specs.HiddenTypes.{HaveForms, SomeLacksForm}
use Rattle.goal_lists.specs.Entries.{hidden_type}
use Rattle.goal_lists.specs.Level.{HasHeadForm, HeadFormRefuted}
use Rattle.goal_lists.proofs.InternedLemmas.{are_in-grown, all_same-grown, same-grown, in-grown}
use Rattle.goal_eval.proofs.TraitOutcomeLemmas.{candidate-in, undecided-refuted, environment-decides, bounds-decide, rest-decides, none-decides, trait-ground, trait-bare, trait-unformed, trait-formless, trait-formed, replaced-in, replaced-formed}
use Rattle.goal_lists.specs.Fitting.{about_trait, trees_at}
use Rattle.goal_lists.specs.Causes.{IsCausedEntry}
use Rattle.goal_lists.specs.Interned.{AreIn, erased_at, erased_all, predicate_at, premise_at, candidate_at, IsIn, trait_at, CandidateIn}
use Rattle.goal_eval.proofs.PremiseOutcomes.{PremisesSay, SaysClause, const-predicate, equation-predicate, equation-premise, predicate-premise, premise-at, premises-end, premises-refuted, premises-start, premises-step, trait-predicate, conditions-step, conditions-refuted, conditions-end, condition-at, condition_at, equation-ground, equation-result}
use Rattle.goal_lists.specs.Joined.{both}
use Rattle.goal_eval.proofs.EffectLemmas.{sound-met}
use Rattle.goal_eval.proofs.CacheLemmas.{caching, cache-grown, sound-grown, sound-aside, known-trait, keep-trait, known-const, keep-const, known-alias, known-within, keep-alias, sound-of, sound-parts}
use Rattle.goal_terms.specs.Erased.{erased}
use Rattle.goal_eval.specs.Outcomes.{setting_in, level_in, SaysWhich, SaysThrough, FoundIn, Says, projection_at, header_terms, SaysForm, SaysPremises}
use Rattle.goal_interner.proofs.InternLemmas.{keeps-chain, keeps-refl}
use Rattle.std.proofs.Common.{◌-◌, arith, ap, map, subst, sym, ◌+◌, ◌∙◌, refl, ◌∷◌, ◌++◌, length, rules, get_or, ◌<◌, ◌≡◌, ⊎_elim, Some}
use Rattle.std.proofs.lemmas.List.Elements.{All-push, All-nil, All-get_or, All-same, All-take}
use Rattle.goal_terms.specs.TreeOf.{trees_of, tree_of_ty}
use Rattle.goal_interner.specs.TableMeaning.{tree_at, Keeps}
use Rattle.goal_terms.specs.View.{tree_of_ref}
use Rattle.goal_lists.proofs.ConsistentLemmas.{each_level_is_consistent}
use Rattle.goal_lists.proofs.FittingLemmas.{about_projection}
use Rattle.goal_eval.proofs.HeadFormLemmas.{own_form, alias_found, parts_in}
use Rattle.goal_eval.proofs.AliasTermLemmas.{depth-zero, projection-above}
use Rattle.goal_lists.specs.Premises.{clauses_under, conditions_as}
use Rattle.goal_lists.specs.Headers.{under}
use Rattle.std.proofs.lemmas.List.{map-append, take_all, length_push}
use Rattle.goal_eval.specs.HeaderWords.{KnownIn, OptionIn, known_trees, IsKnown, erased_ref, ClashAt}
use Rattle.goal_eval.proofs.HeaderPlaceLemmas.{heads-same, heads-other, stand-arguments}
use Rattle.goal_eval.proofs.HeaderPartLemmas.{behind-zero, behind-refuted, behind-undecided, behind-other, behind-form, found-is, found-refuted, found-undecided, among-known, known-start, known-more, known-all, known-same_given}
use Rattle.goal_lists.proofs.UnderLemmas.{are_in-below, are_in-arguments}
use Rattle.goal_eval.proofs.HeaderArgLemmas.{known_in-grown}
use Rattle.goal_eval.proofs.HeaderOutcomeLemmas.{behind_clash-zero, behind_clash-refuted, behind_clash-undecided, behind_clash-other, behind_clash-form, any-found, any-more, any-none, any-end, asked-of, instance-unknown, instance-says}
use Rattle.goal_lists.specs.Words.{SomePair, Pairs}
use Rattle.goal_eval.proofs.HeaderMatchLemmas.{fit-says, filled-fills, match-fits, match-clashes, match-known, match-unknown, known-outcome-grown, match-given, known-outcome-given, match-says}
use Rattle.goal_eval.proofs.ProjectionTermLemmas.{consistent, decided-start, decided-more, given-none, given-beside, formed-says, forms-end, forms-more, forms-refuted, forms-unknown, group-end, group-fitting, group-more, group-near, group-stop, same_element}
use Rattle.goal_lists.specs.Answers.{setting_of}
use Rattle.goal_lists.specs.Candidates.{by_impl, second_group, class_of}
use Rattle.goal_lists.specs.TraitLists.{trait_list}
use Rattle.goal_eval.specs.SpecialImpls.{IsOfRows, SaysMoreSpecial}
use Rattle.goal_eval.proofs.CandidateRowLemmas.{class-rows, second-rows}
use Rattle.goal_eval.proofs.OutcomeLists.{All-at}
use Rattle.goal_eval.proofs.SpecialImplLemmas.{impls-start, impls-more, impls-shown, impls-end, others-decide}
use Rattle.goal_terms.specs.declared.modes.TypingMode.TheVariants as mode
use Rattle.goal_eval.proofs.ProjectionGroupLemmas.{class-near, groups-by_environment, groups-by_later, groups-undecided, item-none, item-refuted, item-says, item-undecided, later-by_second, no_args, projection-says, projection-without_item, projection-without_trait, refuted-unformed, replaced-says, self_args-grown, some_args, through-says, through-unformed}
use Rattle.goal_eval.proofs.MergingLemmas.{found_in-grown, merged-in}
use Rattle.goal_eval.proofs.+closed.Goals.{normalizes_to::projections::head_forms_outcome-in-Is, normalizes_to::projections::head_forms_outcome-in-Undecided}
use Rattle.std.proofs.lemmas.Bool.{false≢true}
use Rattle.goal_interner.proofs.SameTermLemmas.{tops-same, tops-differ}
use Rattle.goal_eval.specs.Pending.{IsOpen}
use Rattle.goal_eval.proofs.FormLemmas.{pair-ground, pair-found_ok, pair-lacking, same-form, other-node, forms-compared, found-in, open-grown, narrows-more, narrows-end, narrows-refuted, left-over_ok}
use Rattle.goal_eval.proofs.PartKinds.{parts-of_one_kind, lists-of_one_kind}
use Rattle.goal_eval.proofs.TopLemmas.{nodes-same, nodes-differ}
use Rattle.goal_eval.proofs.ConstOutcomeLemmas.{const-ground, const-no_self}
use Rattle.std.specs.Option.{option_copied}
use Rattle.goal_lists.specs.InternedEntries.{list_at, arguments_at, term_at, entry_at, ArgumentsIn, header_trees, TermIn, value_tree}
use Rattle.goal_eval.specs.Lists.{IsListFor, LeadsOn, progress_at, SaysRow, numbered_at, premises_of, NamedIn, named_at}
use Rattle.goal_eval.proofs.ListAnswerLemmas.{none-says, list-says, caused-at, runs-next, runs-refuted, runs-undecided, runs-end, entry-in}
use Rattle.goal_eval.proofs.ListRunLemmas.{end-in, asking-leads, giving-leads, giving-in, naming-leads, naming-in, terms-ask, clause-asks, row-asks, conditions-ask, access-asks, fault-asks, evaluation-asks, ambiguous-asks, undecided-asks, refused-asks}
use Rattle.std.specs.Prelude.{IfOk, IfSome, slice_get, Ok, ◌||◌}
use Rattle.std.proofs.lemmas.Result.{IfOk-weaker}
use Rattle.goal_eval.proofs.ListEntryLemmas.{given-named, header-named, other-unnamed, other-named, followed-unnamed, followed-named, row-unnamed, row-found, standing-found, head_form-found, value-unnamed, value-found, chosen-found, followed-in, pairs-says, checked-found, unknown-found}
use Rattle.goal_eval.specs.AskedTraits.{candidate_list, SaysListed}
use Rattle.goal_eval.proofs.AskedTraitLemmas.{asked-says, asked-out, asked-beside, impl-says, asked_in-grown, asked-start, asked-more, asked-shown, asked-end, asked-listed, plain-class, groups-first, groups-second}
use Rattle.goal_eval.proofs.HostEffectLemmas.{SaysHost, plain-decides, host-unformed, host-formed}
use Rattle.goal_lists.specs.AliasLists.{alias_list}
use Rattle.goal_eval.proofs.ListedTermLemmas.{alias-says, no_item, candidate-says}
use Rattle.goal_lists.specs.ProjectionLists.{projection_list}
use Rattle.std.specs.List.{All}
use Rattle.goal_terms.specs.declared.answers.TraitGoalProvenVia.TheVariants as class
use Rattle.goal_lists.specs.declared.outcomes.Outcome.TheVariants as outcome
use Rattle.goal_eval.specs.declared.eval.lists.entries.RowPremises.TheVariants as row
use Rattle.goal_eval.specs.declared.eval.lists.progress.Reached.TheVariants as reached
use Rattle.goal_eval.proofs.+closed.Goals as goal

pub eval::premises::predicate_outcome-returns-in_ok-found-in-Trait-clause-says : goal.eval::premises::predicate_outcome-returns-in_ok-found-in-Trait-clause-says
eval::premises::predicate_outcome-returns-in_ok-found-in-Trait-clause-says t c =
    λ m s. subst (SaysClause (level_in c.args.setting.now m c.args.depth) (predicate_at c.args.terms.now c.args.predicate.now)) (sym c.held.ensures)
    (trait-predicate (level_in c.args.setting.now m c.args.depth) c.args.terms.now c.args.predicate.now c.in-Trait.held c.deref.result.now c.in_ok-found-in-Trait.found
    c.in-Trait.is c.deref.ensures.value (c.in_ok-found-in-Trait.ensures.says m s))

pub eval::premises::predicate_outcome-returns-in-Projection-clause-says : goal.eval::premises::predicate_outcome-returns-in-Projection-clause-says
eval::premises::predicate_outcome-returns-in-Projection-clause-says t c =
    λ m s. equation-predicate (level_in c.args.setting.now m c.args.depth) c.args.terms.now c.args.predicate.now c.in-Projection.alias c.in-Projection.term c.equation_outcome.result
    c.in-Projection.is (c.equation_outcome.ensures.says m s)

pub eval::premises::predicate_outcome-returns-in-HostEffect-clause-says : goal.eval::premises::predicate_outcome-returns-in-HostEffect-clause-says
eval::premises::predicate_outcome-returns-in-HostEffect-clause-says t c =
    λ m s. const-predicate (level_in c.args.setting.now m c.args.depth) c.args.terms.now c.args.predicate.now c.in-HostEffect.constness c.in-HostEffect.held
    c.deref-in-HostEffect.result.now c.evaluate_host_effect_goal.result c.in-HostEffect.is c.deref-in-HostEffect.ensures.value (c.evaluate_host_effect_goal.ensures.says m s)

pub eval::premises::premise_outcome-returns-in-Predicate-clause-says : goal.eval::premises::premise_outcome-returns-in-Predicate-clause-says
eval::premises::premise_outcome-returns-in-Predicate-clause-says t c =
    λ m s. predicate-premise (level_in c.args.setting.now m c.args.depth) c.args.terms.now c.args.premise.now c.in-Predicate.predicate c.predicate_outcome.result
    c.in-Predicate.is (c.predicate_outcome.ensures.says m s)

pub eval::premises::premise_outcome-returns-in-Equation-clause-says : goal.eval::premises::premise_outcome-returns-in-Equation-clause-says
eval::premises::premise_outcome-returns-in-Equation-clause-says t c =
    λ m s. equation-premise (level_in c.args.setting.now m c.args.depth) c.args.terms.now c.args.premise.now c.in-Equation.left c.in-Equation.right c.compare_terms.result
    c.in-Equation.is (c.compare_terms.ensures.says m s)

pub eval::premises::premises_outcome-loop-premise-init : goal.eval::premises::premises_outcome-loop-premise-init
eval::premises::premises_outcome-loop-premise-init t c = record {
  kept = keeps-refl c.args.terms.now;
  effects = search (rules, caching);
  so_far = premises-start c.args.setting.now c.args.depth (premise_at c.args.terms.now) c.args.premises.now;
}

pub eval::premises::premises_outcome-loop-premise-preserved : goal.eval::premises::premises_outcome-loop-premise-preserved
eval::premises::premises_outcome-loop-premise-preserved t c = record {
  kept = keeps-chain c.args.terms.now c.loop-premise.terms c.premise_outcome.new.terms c.loop-premise.invariant.kept c.premise_outcome.ensures.kept;
  effects = search (rules, caching);
  so_far =
      subst (PremisesSay c.args.setting.now c.args.depth (premise_at c.args.terms.now) c.args.premises.now (c.loop-premise.premise-index + 1)) (sym c.and-found.ensures)
      (premises-step c.args.setting.now c.args.depth c.args.terms.now c.loop-premise.terms c.args.premises.now c.loop-premise.premise-index c.premise-item.result c.loop-premise.found c.in_ok-next.next
      c.loop-premise.invariant.kept c.requires.within (omega arith) c.premise-item.is c.loop-premise.invariant.so_far c.in_ok-next.ensures.says);
}

pub eval::premises::premises_outcome-returns-in-Refuted-clause-says : goal.eval::premises::premises_outcome-returns-in-Refuted-clause-says
eval::premises::premises_outcome-returns-in-Refuted-clause-says t c =
    premises-refuted c.args.setting.now c.args.depth (premise_at c.args.terms.now) c.args.premises.now (c.loop-premise.premise-index + 1) (both c.loop-premise.found c.in_ok-next.next) (sym c.and-found.ensures ∙ c.in-Refuted.is)
    (premises-step c.args.setting.now c.args.depth c.args.terms.now c.loop-premise.terms c.args.premises.now c.loop-premise.premise-index c.premise-item.result c.loop-premise.found c.in_ok-next.next
    c.loop-premise.invariant.kept c.requires.within (omega arith) c.premise-item.is c.loop-premise.invariant.so_far c.in_ok-next.ensures.says)

pub eval::premises::premises_outcome-returns-clause-says : goal.eval::premises::premises_outcome-returns-clause-says
eval::premises::premises_outcome-returns-clause-says t c =
    premises-end c.args.setting.now c.args.depth (premise_at c.args.terms.now) c.args.premises.now c.loop-premise.premise-index c.loop-premise.found (omega arith)
    c.loop-premise.invariant.so_far

pub eval::premises::premises_outcome-premise_outcome-requires : goal.eval::premises::premises_outcome-premise_outcome-requires
eval::premises::premises_outcome-premise_outcome-requires t c = (
  omega arith,
  (
    search (rules, caching),
    (premise-at c.args.terms.now c.loop-premise.terms c.args.premises.now c.loop-premise.premise-index c.premise-item.result
        c.loop-premise.invariant.kept c.requires.within (omega arith) c.premise-item.is).0,
  ),
)

pub eval::head_forms::head_form-returns-in_default : goal.eval::head_forms::head_form-returns-in_default
eval::head_forms::head_form-returns-in_default t c = record {
  kept = keeps-refl c.args.terms.now;
  effects = search (rules, caching);
  within = c.requires.within;
  stops = tt;
  says = λ m s. own_form (level_in c.args.setting.now m c.args.depth) (tree_at c.args.terms.now c.args.id) (λ k e. c.in_default.not-Alias k (c.node.ensures.top ∙ e));
}

pub eval::head_forms::head_form-alias_term-requires : goal.eval::head_forms::head_form-alias_term-requires
eval::head_forms::head_form-alias_term-requires t c = (
  omega arith,
  (
    search (rules, caching),
    parts_in c.args.terms.now c.as_slice.result.now c.parts.result.now c.in-Alias.kind c.args.id.0 (tree_at c.args.terms.now c.args.id) c.node.result
        c.requires.within.0 c.parts.ensures.earlier c.in-Alias.is c.node.ensures.fits c.parts.ensures.trees (c.as_slice.ensures.value ∙ c.in_ok-args.ensures),
  ),
)

pub eval::head_forms::head_form-returns-clause-says : goal.eval::head_forms::head_form-returns-clause-says
eval::head_forms::head_form-returns-clause-says t c = λ m s.
    alias_found (level_in c.args.setting.now m c.args.depth) c.in-Alias.kind (tree_at c.args.terms.now c.args.id) c.args.terms.now c.alias_term.new.terms
    c.as_slice.result.now c.parts.result.now c.alias_term.result (sym c.node.ensures.top ∙ c.in-Alias.is) c.parts.ensures.trees
    (c.as_slice.ensures.value ∙ c.in_ok-args.ensures) (c.alias_term.ensures.says m s)

pub relate::header_parts::part_behind-returns-then-depth-eq0-clause-says : goal.relate::header_parts::part_behind-returns-then-depth-eq0-clause-says
relate::header_parts::part_behind-returns-then-depth-eq0-clause-says t c =
    behind-zero c.args.setting.now c.args.terms.now c.args.terms.now c.args.number c.args.depth c.args.against.header c.args.against.given c.requires.within c.if-depth-eq0.true

pub relate::header_parts::part_behind-returns-then-not-is_same-clause-says : goal.relate::header_parts::part_behind-returns-then-not-is_same-clause-says
relate::header_parts::part_behind-returns-then-not-is_same-clause-says t c =
    behind-other c.args.setting.now c.args.terms.now c.head_form.new.terms c.head_form.new.terms c.args.number c.args.depth (c.args.depth - 1) c.args.against.header c.args.against.given c.in-Is.form c.requires.within (omega arith)
    (found-is c.args.setting.now (c.args.depth - 1) c.args.terms.now c.head_form.new.terms c.args.against.given c.in-Is.form c.in_ok-head_form.field-0 c.in_ok-head_form.ensures.says c.in-Is.is)
    (heads-other (tree_of_ref c.args.against.header) (tree_at c.head_form.new.terms c.in-Is.form) c.node.result c.node-in-Is.result c.is_same.result c.node.ensures c.node-in-Is.ensures.top c.is_same.ensures c.if-not-is_same.true)

pub relate::header_parts::part_behind-returns-in-Refuted-clause-says : goal.relate::header_parts::part_behind-returns-in-Refuted-clause-says
relate::header_parts::part_behind-returns-in-Refuted-clause-says t c =
    behind-refuted c.args.setting.now c.args.terms.now c.head_form.new.terms c.args.number c.args.depth (c.args.depth - 1) c.args.against.header c.args.against.given c.requires.within (omega arith)
    (found-refuted c.args.setting.now (c.args.depth - 1) c.args.terms.now c.head_form.new.terms c.args.against.given c.in_ok-head_form.field-0 c.in_ok-head_form.ensures.says c.in-Refuted.is)

pub relate::header_parts::part_behind-returns-in-Undecided-clause-says : goal.relate::header_parts::part_behind-returns-in-Undecided-clause-says
relate::header_parts::part_behind-returns-in-Undecided-clause-says t c =
    behind-undecided c.args.setting.now c.args.terms.now c.head_form.new.terms c.args.number c.args.depth (c.args.depth - 1) c.args.against.header c.args.against.given c.requires.within (omega arith)
    (found-undecided c.args.setting.now (c.args.depth - 1) c.args.terms.now c.head_form.new.terms c.args.against.given c.in_ok-head_form.field-0 c.in_ok-head_form.ensures.says c.in-Undecided.is)

pub relate::header_parts::part_behind-returns-else-not-is_same-clause-says : goal.relate::header_parts::part_behind-returns-else-not-is_same-clause-says
relate::header_parts::part_behind-returns-else-not-is_same-clause-says t c =
    behind-form c.args.setting.now c.args.terms.now c.head_form.new.terms c.part_at.new.terms c.args.number c.args.depth (c.args.depth - 1) c.args.against.header c.args.against.given c.in-Is.form
    c.find_place-place.result c.part_at.result c.requires.within (omega arith)
    (found-is c.args.setting.now (c.args.depth - 1) c.args.terms.now c.head_form.new.terms c.args.against.given c.in-Is.form c.in_ok-head_form.field-0 c.in_ok-head_form.ensures.says c.in-Is.is)
    (heads-same (tree_of_ref c.args.against.header) (tree_at c.head_form.new.terms c.in-Is.form) c.node.result c.node-in-Is.result c.is_same.result c.node.ensures c.node-in-Is.ensures.top c.is_same.ensures c.if-not-is_same.false)
    c.find_place-place.ensures.says c.part_at.ensures.says

pub relate::header_parts::known_part-find_among-place-requires : goal.relate::header_parts::known_part-find_among-place-requires
relate::header_parts::known_part-find_among-place-requires t c = record {
  within = are_in-below c.args.terms.now c.args.asked.now.given.now c.requires.given;
  stand = stand-arguments (trees_of c.args.asked.now.header.now) (map (tree_at c.args.terms.now) c.args.asked.now.given.now) (are_in-arguments c.args.terms.now c.args.asked.now.given.now c.requires.given);
}

pub relate::header_parts::known_part-returns-clause-says : goal.relate::header_parts::known_part-returns-clause-says
relate::header_parts::known_part-returns-clause-says t c =
    among-known c.args.setting.now c.args.terms.now c.part_at.new.terms c.args.number c.args.depth c.args.asked.now.header.now c.args.asked.now.given.now c.find_among-place.result c.part_at.result
    c.find_among-place.ensures.says c.part_at.ensures.says

pub relate::header_parts::known_args-loop-i-init : goal.relate::header_parts::known_args-loop-i-init
relate::header_parts::known_args-loop-i-init t c = record {
  kept = keeps-refl c.args.terms.now;
  effects = search (rules, caching);
  within = subst (KnownIn c.args.terms.now) (sym c.new-known.ensures.items) (All-nil (OptionIn c.args.terms.now));
  count = ap length c.new-known.ensures.items;
  says = known-start c.args.setting.now c.args.depth (header_terms c.args.asked.now.header.now) (erased_all c.args.terms.now c.args.asked.now.given.now) c.args.terms.now c.new-known.result.items c.new-known.ensures.items;
}

pub relate::header_parts::known_args-loop-i-preserved : goal.relate::header_parts::known_args-loop-i-preserved
relate::header_parts::known_args-loop-i-preserved t c = record {
  kept = keeps-chain _ _ _ c.loop-i.invariant.kept c.in_ok-next.ensures.kept;
  effects = search (rules, caching);
  within =
      subst (KnownIn c.known_arg.new.terms) (sym c.in_ok-add_known.ensures)
      (All-push (OptionIn c.known_arg.new.terms) c.loop-i.known.items c.in_ok-next.next
      (known_in-grown c.loop-i.terms c.known_arg.new.terms c.in_ok-next.ensures.kept c.loop-i.known.items c.loop-i.invariant.within) c.in_ok-next.ensures.within);
  count = ap length c.in_ok-add_known.ensures ∙ length_push c.loop-i.known.items c.in_ok-next.next ∙ omega (arith, c.loop-i.invariant.count);
  says =
      known-more c.args.setting.now c.args.depth (header_terms c.args.asked.now.header.now) (erased_all c.args.terms.now c.args.asked.now.given.now) c.loop-i.terms c.known_arg.new.terms c.args.asked.now.params.now
      c.loop-i.known.items c.add_known.new.known.items c.in_ok-next.next c.loop-i.i _ (omega arith) c.in_ok-next.ensures.kept c.loop-i.invariant.within c.in_ok-add_known.ensures
      c.loop-i.invariant.says
      (known-same_given c.args.setting.now c.args.depth (header_terms c.args.asked.now.header.now) _ _ _ c.loop-i.i _
      (all_same-grown c.args.terms.now c.loop-i.terms c.loop-i.invariant.kept c.args.asked.now.given.now c.requires.given) c.in_ok-next.ensures.says);
}

pub relate::header_parts::known_args-returns-clause-says : goal.relate::header_parts::known_args-returns-clause-says
relate::header_parts::known_args-returns-clause-says t c =
    known-all c.args.setting.now c.args.depth (header_terms c.args.asked.now.header.now) (erased_all c.args.terms.now c.args.asked.now.given.now) c.args.asked.now.params.now _ c.loop-i.i
    (take_all c.loop-i.i c.args.asked.now.params.now (omega arith)) c.loop-i.invariant.says

pub relate::header_clashes::any_clash-loop-i-init : goal.relate::header_clashes::any_clash-loop-i-init
relate::header_clashes::any_clash-loop-i-init t c = record {
  kept = keeps-refl c.args.terms.now;
  effects = search (rules, caching);
  none = λ m s x. any-none (ClashAt (level_in c.args.setting.now m c.args.depth) (known_trees c.args.terms.now c.args.filled.now.known.now) c.args.terms.now) x;
}

pub relate::header_clashes::any_clash-returns-then-branch-clause-says : goal.relate::header_clashes::any_clash-returns-then-branch-clause-says
relate::header_clashes::any_clash-returns-then-branch-clause-says t c =
    any-found c.args.setting.now c.args.depth c.args.terms.now c.loop-i.terms c.args.filled.now.known.now c.args.questions.now c.loop-i.i c.index-questions-i.result c.in_ok-question_clashes.field-0
    (omega arith) c.index-questions-i.is c.loop-i.invariant.kept c.requires.known c.requires.within
    c.in_ok-question_clashes.ensures.says c.if-branch.true

pub relate::header_clashes::any_clash-loop-i-preserved : goal.relate::header_clashes::any_clash-loop-i-preserved
relate::header_clashes::any_clash-loop-i-preserved t c = record {
  kept = keeps-chain _ _ _ c.loop-i.invariant.kept c.in_ok-question_clashes.ensures.kept;
  effects = search (rules, caching);
  none =
      any-more c.args.setting.now c.args.depth c.args.terms.now c.loop-i.terms c.args.filled.now.known.now c.args.questions.now c.loop-i.i c.index-questions-i.result c.in_ok-question_clashes.field-0
      (omega arith) c.index-questions-i.is c.loop-i.invariant.kept c.requires.known c.requires.within
      c.in_ok-question_clashes.ensures.says c.if-branch.false c.loop-i.invariant.none;
}

pub relate::header_clashes::behind_clashes-returns-then-depth-eq0-clause-says : goal.relate::header_clashes::behind_clashes-returns-then-depth-eq0-clause-says
relate::header_clashes::behind_clashes-returns-then-depth-eq0-clause-says t c =
    behind_clash-zero c.args.setting.now c.args.depth c.args.terms.now (known_trees c.args.terms.now c.args.filled.now.known.now) c.args.against.header c.args.against.given c.requires.within c.if-depth-eq0.true

pub relate::header_clashes::behind_clashes-returns-then-not-is_same-clause-says : goal.relate::header_clashes::behind_clashes-returns-then-not-is_same-clause-says
relate::header_clashes::behind_clashes-returns-then-not-is_same-clause-says t c =
    behind_clash-other c.args.setting.now c.args.depth (c.args.depth - 1) c.args.terms.now c.head_form.new.terms (known_trees c.args.terms.now c.args.filled.now.known.now) c.args.against.header c.args.against.given c.in-Is.form
    c.requires.within (omega arith)
    (found-is c.args.setting.now (c.args.depth - 1) c.args.terms.now c.head_form.new.terms c.args.against.given c.in-Is.form c.in_ok-head_form.field-0 c.in_ok-head_form.ensures.says c.in-Is.is)
    (heads-other (tree_of_ref c.args.against.header) (tree_at c.head_form.new.terms c.in-Is.form) c.node.result c.node-in-Is.result c.is_same.result c.node.ensures c.node-in-Is.ensures.top c.is_same.ensures c.if-not-is_same.true)

pub relate::header_clashes::behind_clashes-returns-in-Refuted-clause-says : goal.relate::header_clashes::behind_clashes-returns-in-Refuted-clause-says
relate::header_clashes::behind_clashes-returns-in-Refuted-clause-says t c =
    behind_clash-refuted c.args.setting.now c.args.depth (c.args.depth - 1) c.args.terms.now (known_trees c.args.terms.now c.args.filled.now.known.now) c.args.against.header c.args.against.given c.requires.within (omega arith)
    (found-refuted c.args.setting.now (c.args.depth - 1) c.args.terms.now c.head_form.new.terms c.args.against.given c.in_ok-head_form.field-0 c.in_ok-head_form.ensures.says c.in-Refuted.is)

pub relate::header_clashes::behind_clashes-returns-in-Undecided-clause-says : goal.relate::header_clashes::behind_clashes-returns-in-Undecided-clause-says
relate::header_clashes::behind_clashes-returns-in-Undecided-clause-says t c =
    behind_clash-undecided c.args.setting.now c.args.depth (c.args.depth - 1) c.args.terms.now (known_trees c.args.terms.now c.args.filled.now.known.now) c.args.against.header c.args.against.given c.requires.within (omega arith)
    (found-undecided c.args.setting.now (c.args.depth - 1) c.args.terms.now c.head_form.new.terms c.args.against.given c.in_ok-head_form.field-0 c.in_ok-head_form.ensures.says c.in-Undecided.is)

pub relate::header_clashes::behind_clashes-returns-else-not-is_same-clause-says : goal.relate::header_clashes::behind_clashes-returns-else-not-is_same-clause-says
relate::header_clashes::behind_clashes-returns-else-not-is_same-clause-says t c =
    behind_clash-form c.args.setting.now c.args.depth (c.args.depth - 1) c.args.terms.now c.head_form.new.terms c.args.filled.now.known.now c.args.against.header c.args.against.given c.in-Is.form c.form_clashes.result
    c.requires.within (omega arith) c.in_ok-head_form.ensures.kept c.requires.known
    (found-is c.args.setting.now (c.args.depth - 1) c.args.terms.now c.head_form.new.terms c.args.against.given c.in-Is.form c.in_ok-head_form.field-0 c.in_ok-head_form.ensures.says c.in-Is.is)
    (heads-same (tree_of_ref c.args.against.header) (tree_at c.head_form.new.terms c.in-Is.form) c.node.result c.node-in-Is.result c.is_same.result c.node.ensures c.node-in-Is.ensures.top c.is_same.ensures c.if-not-is_same.false)
    c.form_clashes.ensures.says

pub relate::header_clashes::form_clashes-returns-clause-says : goal.relate::header_clashes::form_clashes-returns-clause-says
relate::header_clashes::form_clashes-returns-clause-says t c =
    asked-of c.args.setting.now c.args.depth c.args.terms.now (known_trees c.args.terms.now c.args.filled.now.known.now) c.deref.result.now c.in_ok-questions.questions.items
    (λ L. L.clash (IsKnown (known_trees c.args.terms.now c.args.filled.now.known.now)) (erased_ref c.args.against.header) (erased_at c.args.terms.now c.args.against.given))
    c.any_clash.result c.deref.ensures.value (λ m. c.in_ok-questions.ensures.says (setting_in c.args.setting.now m) c.args.depth (known_trees c.args.terms.now c.args.filled.now.known.now)) c.any_clash.ensures.says

pub relate::header_clashes::any_clash-returns-clause-says : goal.relate::header_clashes::any_clash-returns-clause-says
relate::header_clashes::any_clash-returns-clause-says t c =
    any-end c.args.setting.now c.args.depth c.args.terms.now (known_trees c.args.terms.now c.args.filled.now.known.now) c.args.questions.now c.loop-i.i
    (take_all c.loop-i.i c.args.questions.now (omega arith)) c.loop-i.invariant.none

pub relate::header_clashes::instance_clashes-returns-then-mentions_unknown-clause-says : goal.relate::header_clashes::instance_clashes-returns-then-mentions_unknown-clause-says
relate::header_clashes::instance_clashes-returns-then-mentions_unknown-clause-says t c =
    instance-unknown c.args.setting.now c.args.depth c.args.terms.now c.args.filled.now.known.now c.args.against.header c.args.against.given c.mentions_unknown.result c.requires.within.1
    c.mentions_unknown.ensures c.if-mentions_unknown.true

pub relate::header_clashes::instance_clashes-returns-in-Refuted-clause-says : goal.relate::header_clashes::instance_clashes-returns-in-Refuted-clause-says
relate::header_clashes::instance_clashes-returns-in-Refuted-clause-says t c =
    instance-says c.args.setting.now c.args.depth c.args.terms.now c.instance_of.new.terms c.args.filled.now.known.now c.args.filled.now.args.items c.args.against.header c.args.against.given c.in_ok-instance.instance
    c.mentions_unknown.result c.in_ok-compare_terms.field-0 outcome.Refuted c.requires.within.1 c.requires.fills c.mentions_unknown.ensures c.if-mentions_unknown.false (c.in_ok-instance.ensures.tree ∙ ap (λ xs. under (erased_all c.args.terms.now xs) (erased_ref c.args.against.header)) c.deref.ensures.value)
    (same-grown c.args.terms.now c.instance_of.new.terms c.in_ok-instance.ensures.kept c.args.against.given c.requires.within.0) c.in_ok-compare_terms.ensures.says c.in-Refuted.is

pub relate::header_clashes::instance_clashes-returns-in-Holds-clause-says : goal.relate::header_clashes::instance_clashes-returns-in-Holds-clause-says
relate::header_clashes::instance_clashes-returns-in-Holds-clause-says t c =
    instance-says c.args.setting.now c.args.depth c.args.terms.now c.instance_of.new.terms c.args.filled.now.known.now c.args.filled.now.args.items c.args.against.header c.args.against.given c.in_ok-instance.instance
    c.mentions_unknown.result c.in_ok-compare_terms.field-0 outcome.Holds c.requires.within.1 c.requires.fills c.mentions_unknown.ensures c.if-mentions_unknown.false (c.in_ok-instance.ensures.tree ∙ ap (λ xs. under (erased_all c.args.terms.now xs) (erased_ref c.args.against.header)) c.deref.ensures.value)
    (same-grown c.args.terms.now c.instance_of.new.terms c.in_ok-instance.ensures.kept c.args.against.given c.requires.within.0) c.in_ok-compare_terms.ensures.says c.in-Holds.is

pub relate::header_clashes::instance_clashes-returns-in-Undecided-clause-says : goal.relate::header_clashes::instance_clashes-returns-in-Undecided-clause-says
relate::header_clashes::instance_clashes-returns-in-Undecided-clause-says t c =
    instance-says c.args.setting.now c.args.depth c.args.terms.now c.instance_of.new.terms c.args.filled.now.known.now c.args.filled.now.args.items c.args.against.header c.args.against.given c.in_ok-instance.instance
    c.mentions_unknown.result c.in_ok-compare_terms.field-0 outcome.Undecided c.requires.within.1 c.requires.fills c.mentions_unknown.ensures c.if-mentions_unknown.false (c.in_ok-instance.ensures.tree ∙ ap (λ xs. under (erased_all c.args.terms.now xs) (erased_ref c.args.against.header)) c.deref.ensures.value)
    (same-grown c.args.terms.now c.instance_of.new.terms c.in_ok-instance.ensures.kept c.args.against.given c.requires.within.0) c.in_ok-compare_terms.ensures.says c.in-Undecided.is

pub relate::header_clashes::header_clashes-returns-clause-says : goal.relate::header_clashes::header_clashes-returns-clause-says
relate::header_clashes::header_clashes-returns-clause-says t c =
    asked-of c.args.setting.now c.args.depth c.args.terms.now (known_trees c.args.terms.now c.args.filled.now.known.now) c.deref.result.now c.in_ok-questions.questions.items
    (λ L. SomePair (L.clash (IsKnown (known_trees c.args.terms.now c.args.filled.now.known.now))) (header_terms c.args.asked.now.header.now) (erased_all c.args.terms.now c.args.asked.now.given.now))
    c.any_clash.result c.deref.ensures.value (λ m. c.in_ok-questions.ensures.says (setting_in c.args.setting.now m) c.args.depth (known_trees c.args.terms.now c.args.filled.now.known.now)) c.any_clash.ensures.says

pub relate::headers::instances_fit-returns-in-Holds-clause-says : goal.relate::headers::instances_fit-returns-in-Holds-clause-says
relate::headers::instances_fit-returns-in-Holds-clause-says t c =
    fit-says c.args.setting.now c.args.depth c.args.terms.now c.instances.new.terms c.in_ok-ids.ids.items c.args.asked.now.given.now
    (map (under (erased_all c.args.terms.now c.args.args.now)) (header_terms c.args.asked.now.header.now)) c.deref.result.now c.in_ok-compare_lists.field-0 outcome.Holds
    c.deref.ensures.value c.in_ok-ids.ensures.trees (all_same-grown c.args.terms.now c.instances.new.terms c.in_ok-ids.ensures.kept c.args.asked.now.given.now c.requires.given)
    c.in_ok-compare_lists.ensures.says c.in-Holds.is

pub relate::headers::instances_fit-returns-in-Refuted-clause-says : goal.relate::headers::instances_fit-returns-in-Refuted-clause-says
relate::headers::instances_fit-returns-in-Refuted-clause-says t c =
    fit-says c.args.setting.now c.args.depth c.args.terms.now c.instances.new.terms c.in_ok-ids.ids.items c.args.asked.now.given.now
    (map (under (erased_all c.args.terms.now c.args.args.now)) (header_terms c.args.asked.now.header.now)) c.deref.result.now c.in_ok-compare_lists.field-0 outcome.Refuted
    c.deref.ensures.value c.in_ok-ids.ensures.trees (all_same-grown c.args.terms.now c.instances.new.terms c.in_ok-ids.ensures.kept c.args.asked.now.given.now c.requires.given)
    c.in_ok-compare_lists.ensures.says c.in-Refuted.is

pub relate::headers::instances_fit-returns-clause-says : goal.relate::headers::instances_fit-returns-clause-says
relate::headers::instances_fit-returns-clause-says t c =
    fit-says c.args.setting.now c.args.depth c.args.terms.now c.instances.new.terms c.in_ok-ids.ids.items c.args.asked.now.given.now
    (map (under (erased_all c.args.terms.now c.args.args.now)) (header_terms c.args.asked.now.header.now)) c.deref.result.now c.in_ok-compare_lists.field-0 outcome.Undecided
    c.deref.ensures.value c.in_ok-ids.ensures.trees (all_same-grown c.args.terms.now c.instances.new.terms c.in_ok-ids.ensures.kept c.args.asked.now.given.now c.requires.given)
    c.in_ok-compare_lists.ensures.says c.in-Undecided.is

pub relate::headers::match_complete-returns-then-branch-clause-says : goal.relate::headers::match_complete-returns-then-branch-clause-says
relate::headers::match_complete-returns-then-branch-clause-says t c =
    match-fits c.args.setting.now c.args.depth c.args.terms.now c.instances_fit.new.terms c.args.asked.now.params.now (header_terms c.args.asked.now.header.now) (erased_all c.args.terms.now c.args.asked.now.given.now)
    c.args.filled.known.now c.args.filled.args c.deref.result.now c.in_ok-instances_fit.field-0 c.in_ok-instances_fit.ensures.kept c.requires.args c.requires.filled c.requires.complete c.requires.says
    c.deref.ensures.value c.in_ok-instances_fit.ensures.says c.if-branch.true

pub relate::headers::match_complete-returns-then-branch-2-clause-says : goal.relate::headers::match_complete-returns-then-branch-2-clause-says
relate::headers::match_complete-returns-then-branch-2-clause-says t c =
    match-clashes c.args.setting.now c.args.depth c.args.terms.now c.instances_fit.new.terms c.header_clashes.new.terms c.args.asked.now.params.now (header_terms c.args.asked.now.header.now) c.args.asked.now.given.now
    c.args.filled.known.now c.in_ok-header_clashes.field-0 c.in_ok-instances_fit.ensures.kept c.requires.given c.requires.known c.requires.says c.in_ok-header_clashes.ensures.says c.if-branch-2.true

pub relate::headers::match_complete-returns-clause-says : goal.relate::headers::match_complete-returns-clause-says
relate::headers::match_complete-returns-clause-says t c =
    match-known c.args.setting.now c.args.depth c.args.terms.now c.instances_fit.new.terms c.header_clashes.new.terms c.args.asked.now.params.now (header_terms c.args.asked.now.header.now) c.args.asked.now.given.now
    c.args.filled.known.now c.args.filled.args c.deref.result.now c.in_ok-instances_fit.field-0 c.in_ok-header_clashes.field-0 c.in_ok-instances_fit.ensures.kept
    (keeps-chain _ _ _ c.in_ok-instances_fit.ensures.kept c.in_ok-header_clashes.ensures.kept) c.requires.given c.requires.known c.requires.args c.requires.filled c.requires.complete c.requires.says
    c.deref.ensures.value c.in_ok-instances_fit.ensures.says c.if-branch.false c.in_ok-header_clashes.ensures.says c.if-branch-2.false

pub relate::headers::match_incomplete-returns-then-branch-clause-says : goal.relate::headers::match_incomplete-returns-then-branch-clause-says
relate::headers::match_incomplete-returns-then-branch-clause-says t c =
    match-clashes c.args.setting.now c.args.depth c.args.terms.now c.args.terms.now c.header_clashes.new.terms c.args.asked.now.params.now (header_terms c.args.asked.now.header.now) c.args.asked.now.given.now
    c.args.filled.now.known.now c.in_ok-header_clashes.field-0 (keeps-refl c.args.terms.now) c.requires.given c.requires.known c.requires.says c.in_ok-header_clashes.ensures.says c.if-branch.true

pub relate::headers::match_incomplete-returns-else-branch-clause-says : goal.relate::headers::match_incomplete-returns-else-branch-clause-says
relate::headers::match_incomplete-returns-else-branch-clause-says t c =
    match-unknown c.args.setting.now c.args.depth c.args.terms.now c.header_clashes.new.terms c.args.asked.now.params.now (header_terms c.args.asked.now.header.now) c.args.asked.now.given.now
    c.args.filled.now.known.now c.in_ok-header_clashes.field-0 (keeps-refl c.args.terms.now) c.requires.given c.requires.known c.requires.complete c.requires.says c.in_ok-header_clashes.ensures.says c.if-branch.false

pub relate::headers::match_known-returns-then-is_complete-clause-says : goal.relate::headers::match_known-returns-then-is_complete-clause-says
relate::headers::match_known-returns-then-is_complete-clause-says t c =
    match-given c.args.setting.now c.args.depth c.args.asked.now.params.now (header_terms c.args.asked.now.header.now) (erased_all c.args.terms.now c.args.asked.now.given.now) (erased_all c.filled_args.new.terms c.args.asked.now.given.now)
    c.match_complete.new.terms c.match_complete.result
    (all_same-grown c.args.terms.now c.filled_args.new.terms c.in_ok-args.ensures.kept c.args.asked.now.given.now c.requires.given) c.match_complete.ensures.says

pub relate::headers::match_known-returns-else-is_complete-clause-says : goal.relate::headers::match_known-returns-else-is_complete-clause-says
relate::headers::match_known-returns-else-is_complete-clause-says t c =
    match-given c.args.setting.now c.args.depth c.args.asked.now.params.now (header_terms c.args.asked.now.header.now) (erased_all c.args.terms.now c.args.asked.now.given.now) (erased_all c.filled_args.new.terms c.args.asked.now.given.now)
    c.match_incomplete.new.terms c.match_incomplete.result
    (all_same-grown c.args.terms.now c.filled_args.new.terms c.in_ok-args.ensures.kept c.args.asked.now.given.now c.requires.given) c.match_incomplete.ensures.says

pub relate::headers::match_header-returns-clause-says : goal.relate::headers::match_header-returns-clause-says
relate::headers::match_header-returns-clause-says t c =
    match-says c.args.setting.now c.args.depth c.args.asked.now.params.now (header_terms c.args.asked.now.header.now) (erased_all c.args.terms.now c.args.asked.now.given.now) c.match_known.new.terms c.match_known.result
    (match-given c.args.setting.now c.args.depth c.args.asked.now.params.now (header_terms c.args.asked.now.header.now) (erased_all c.args.terms.now c.args.asked.now.given.now) (erased_all c.known_args.new.terms c.args.asked.now.given.now)
    c.match_known.new.terms c.match_known.result
    (all_same-grown c.args.terms.now c.known_args.new.terms c.in_ok-known.ensures.kept c.args.asked.now.given.now c.requires.given) c.match_known.ensures.says)

pub relate::headers::match_complete-header_clashes-requires : goal.relate::headers::match_complete-header_clashes-requires
relate::headers::match_complete-header_clashes-requires t c = (
  omega (arith, c.decreases),
  (
    search (rules, caching),
    (
      are_in-grown c.args.terms.now c.instances_fit.new.terms c.in_ok-instances_fit.ensures.kept c.args.asked.now.given.now c.requires.given,
      (
        known_in-grown c.args.terms.now c.instances_fit.new.terms c.in_ok-instances_fit.ensures.kept c.args.filled.known.now c.requires.known,
        (
          are_in-grown c.args.terms.now c.instances_fit.new.terms c.in_ok-instances_fit.ensures.kept c.args.filled.args.items c.requires.args,
          filled-fills c.args.terms.now c.args.filled.known.now c.args.filled.args.items c.requires.filled,
        ),
      ),
    ),
  ),
)

pub relate::headers::match_incomplete-header_clashes-requires : goal.relate::headers::match_incomplete-header_clashes-requires
relate::headers::match_incomplete-header_clashes-requires t c = (
  omega (arith, c.decreases),
  (search (rules, caching), (c.requires.given, (c.requires.known, (c.requires.args, filled-fills c.args.terms.now c.args.filled.now.known.now c.args.filled.now.args.items c.requires.filled)))),
)

pub relate::headers::match_known-match_complete-requires : goal.relate::headers::match_known-match_complete-requires
relate::headers::match_known-match_complete-requires t c = (
  omega (arith, c.decreases),
  (
    search (rules, caching),
    (
      are_in-grown c.args.terms.now c.filled_args.new.terms c.in_ok-args.ensures.kept c.args.asked.now.given.now c.requires.given,
      (
        known_in-grown c.args.terms.now c.filled_args.new.terms c.in_ok-args.ensures.kept c.args.known.now c.requires.known,
        (
          c.in_ok-args.ensures.within,
          (
            c.in_ok-args.ensures.filled,
            (
              sym c.is_complete.ensures ∙ c.if-is_complete.true,
              known-outcome-grown c.args.setting.now c.args.depth c.args.terms.now c.filled_args.new.terms (header_terms c.args.asked.now.header.now) c.args.asked.now.params.now c.args.asked.now.given.now c.args.known.now
                  c.in_ok-args.ensures.kept c.requires.given c.requires.known c.requires.says,
            ),
          ),
        ),
      ),
    ),
  ),
)

pub relate::headers::match_known-match_incomplete-requires : goal.relate::headers::match_known-match_incomplete-requires
relate::headers::match_known-match_incomplete-requires t c = (
  omega (arith, c.decreases),
  (
    search (rules, caching),
    (
      are_in-grown c.args.terms.now c.filled_args.new.terms c.in_ok-args.ensures.kept c.args.asked.now.given.now c.requires.given,
      (
        known_in-grown c.args.terms.now c.filled_args.new.terms c.in_ok-args.ensures.kept c.args.known.now c.requires.known,
        (
          c.in_ok-args.ensures.within,
          (
            c.in_ok-args.ensures.filled,
            (
              sym c.is_complete.ensures ∙ c.if-is_complete.false,
              known-outcome-grown c.args.setting.now c.args.depth c.args.terms.now c.filled_args.new.terms (header_terms c.args.asked.now.header.now) c.args.asked.now.params.now c.args.asked.now.given.now c.args.known.now
                  c.in_ok-args.ensures.kept c.requires.given c.requires.known c.requires.says,
            ),
          ),
        ),
      ),
    ),
  ),
)

pub relate::headers::match_header-match_known-requires : goal.relate::headers::match_header-match_known-requires
relate::headers::match_header-match_known-requires t c = (
  omega (arith, c.decreases),
  (
    search (rules, caching),
    (
      are_in-grown c.args.terms.now c.known_args.new.terms c.in_ok-known.ensures.kept c.args.asked.now.given.now c.requires.given,
      (
        subst (KnownIn c.known_args.new.terms) (sym c.deref.ensures.value) c.in_ok-known.ensures.within,
        (
          sym c.in_ok-known.ensures.count ∙ ap length (sym c.deref.ensures.value),
          known-outcome-given c.args.setting.now c.args.depth (header_terms c.args.asked.now.header.now) (erased_all c.args.terms.now c.args.asked.now.given.now) (erased_all c.known_args.new.terms c.args.asked.now.given.now) c.args.asked.now.params.now
              (known_trees c.known_args.new.terms c.in_ok-known.known.items) (known_trees c.known_args.new.terms c.deref.result.now)
              (sym (all_same-grown c.args.terms.now c.known_args.new.terms c.in_ok-known.ensures.kept c.args.asked.now.given.now c.requires.given)) (ap (known_trees c.known_args.new.terms) (sym c.deref.ensures.value))
              c.in_ok-known.ensures.says,
        ),
      ),
    ),
  ),
)

pub normalizes_to::projections::environment_term-returns-clause-says :
    goal.normalizes_to::projections::environment_term-returns-clause-says
normalizes_to::projections::environment_term-returns-clause-says t c = λ m s.
    group-near (setting_in c.args.setting.now m) c.args.depth c.args.terms.now c.candidates_of_class.new.terms c.group_term.new.terms c.in_ok-candidates.ensures.kept
    c.args.projection.now c.requires.projection c.args.projection.now.item.now.trait_id (map (candidate_at c.candidates_of_class.new.terms) c.as_slice.result.now)
    (ap (map (candidate_at c.candidates_of_class.new.terms)) c.as_slice.ensures.value ∙ c.in_ok-candidates.ensures.candidates m
    ∙ class-near (setting_in c.args.setting.now m) (erased_at c.args.terms.now c.args.self_ty)
    (about_projection c.args.projection.now.item.now.trait_id (projection_at c.args.terms.now c.args.projection.now) (trees_at c.args.terms.now c.args.projection.now.args.now)))
    c.group_term.result (c.group_term.ensures.says m s)

pub normalizes_to::projections::environment_term-group_term-requires : goal.normalizes_to::projections::environment_term-group_term-requires
normalizes_to::projections::environment_term-group_term-requires t c = (
  omega arith,
  (
    search (rules, caching),
    (
      (
        are_in-grown c.args.terms.now c.candidates_of_class.new.terms c.in_ok-candidates.ensures.kept c.args.projection.now.args.now c.requires.projection.0,
        in-grown c.args.terms.now c.candidates_of_class.new.terms c.in_ok-candidates.ensures.kept c.args.projection.now.rigid_alias c.requires.projection.1,
      ),
      (
        subst (All (CandidateIn c.candidates_of_class.new.terms)) (sym c.as_slice.ensures.value) c.in_ok-candidates.ensures.within,
        class-rows (setting_of c.args.setting.now.rows.now mode.ErasedNotCoherence c.args.setting.now.environment.now) c.candidates_of_class.new.terms
            (erased_at c.args.terms.now c.args.self_ty) (about_projection c.args.projection.now.item.now.trait_id (projection_at c.args.terms.now c.args.projection.now) (trees_at c.args.terms.now c.args.projection.now.args.now)) class.ParamEnv c.as_slice.result.now
            (ap (map (candidate_at c.candidates_of_class.new.terms)) c.as_slice.ensures.value ∙ c.in_ok-candidates.ensures.candidates mode.ErasedNotCoherence),
      ),
    ),
  ),
)

pub normalizes_to::projections::own_args_normalized-returns-in-Undecided-clause-says :
    goal.normalizes_to::projections::own_args_normalized-returns-in-Undecided-clause-says
normalizes_to::projections::own_args_normalized-returns-in-Undecided-clause-says t c = λ m s.
    formed-says (level_in c.args.setting.now m c.args.depth) c.args.terms.now c.head_forms_outcome.new.terms c.head_forms_outcome.ensures.kept c.args.projection.now c.args.term c.requires.term
    c.behind-own.result.now c.behind-own.ensures outcome.Undecided (rw c.in-Undecided.is at (c.in_ok-head_forms_outcome.ensures.says m s))

pub normalizes_to::projections::own_args_normalized-returns-in-Refuted-clause-says :
    goal.normalizes_to::projections::own_args_normalized-returns-in-Refuted-clause-says
normalizes_to::projections::own_args_normalized-returns-in-Refuted-clause-says t c = λ m s.
    formed-says (level_in c.args.setting.now m c.args.depth) c.args.terms.now c.head_forms_outcome.new.terms c.head_forms_outcome.ensures.kept c.args.projection.now c.args.term c.requires.term
    c.behind-own.result.now c.behind-own.ensures outcome.Refuted (rw c.in-Refuted.is at (c.in_ok-head_forms_outcome.ensures.says m s))

pub normalizes_to::projections::own_args_normalized-returns-in-Holds-clause-says :
    goal.normalizes_to::projections::own_args_normalized-returns-in-Holds-clause-says
normalizes_to::projections::own_args_normalized-returns-in-Holds-clause-says t c = λ m s.
    formed-says (level_in c.args.setting.now m c.args.depth) c.args.terms.now c.head_forms_outcome.new.terms c.head_forms_outcome.ensures.kept c.args.projection.now c.args.term c.requires.term
    c.behind-own.result.now c.behind-own.ensures outcome.Holds (rw c.in-Holds.is at (c.in_ok-head_forms_outcome.ensures.says m s))

pub normalizes_to::projections::group_term-returns-in-Undecided-clause-says :
    goal.normalizes_to::projections::group_term-returns-in-Undecided-clause-says
normalizes_to::projections::group_term-returns-in-Undecided-clause-says t c = λ m s.
    group-stop (setting_in c.args.setting.now m) (level_in c.args.setting.now m c.args.depth) (consistent c.args.setting.now m c.args.depth) c.args.terms.now c.consider_term.new.terms c.consider_term.new.terms c.args.projection.now c.args.candidates.now
    (c.loop-candidate.candidate-index + 1) c.merge_terms-found.result c.in-Undecided.is
    (group-more (setting_in c.args.setting.now m) (level_in c.args.setting.now m c.args.depth) (consistent c.args.setting.now m c.args.depth) c.args.terms.now c.loop-candidate.terms c.consider_term.new.terms
    c.loop-candidate.invariant.kept c.in_ok-next.ensures.kept c.args.projection.now c.requires.projection c.args.candidates.now c.loop-candidate.candidate-index c.candidate-item.result c.loop-candidate-test.true
    c.candidate-item.is c.requires.candidates c.loop-candidate.found c.in_ok-next.next c.merge_terms-found.result c.loop-candidate.invariant.within c.merge_terms-found.ensures
    (c.loop-candidate.invariant.says m s) (c.in_ok-next.ensures.says m s))

pub normalizes_to::projections::group_term-loop-candidate-init : goal.normalizes_to::projections::group_term-loop-candidate-init
normalizes_to::projections::group_term-loop-candidate-init t c = record {
  kept = keeps-refl c.args.terms.now;
  effects = search (rules, caching);
  within = tt;
  says = λ m s. tt;
  told = λ m s. decided-start (setting_in c.args.setting.now m) (level_in c.args.setting.now m c.args.depth) c.args.terms.now c.args.projection.now c.args.candidates.now;
}

pub normalizes_to::projections::group_term-consider_term-requires : goal.normalizes_to::projections::group_term-consider_term-requires
normalizes_to::projections::group_term-consider_term-requires t c = (
  omega arith,
  (
    search (rules, caching),
    (
      (
        are_in-grown c.args.terms.now c.loop-candidate.terms c.loop-candidate.invariant.kept c.args.projection.now.args.now c.requires.projection.0,
        in-grown c.args.terms.now c.loop-candidate.terms c.loop-candidate.invariant.kept c.args.projection.now.rigid_alias c.requires.projection.1,
      ),
      (
        candidate-in c.args.terms.now c.loop-candidate.terms c.args.candidates.now c.loop-candidate.candidate-index c.candidate-item.result c.loop-candidate.invariant.kept c.requires.candidates (omega arith) c.candidate-item.is,
        All-at (IsOfRows c.args.setting.now.rows.now) c.args.candidates.now c.loop-candidate.candidate-index c.candidate-item.result c.requires.rows (omega arith) c.candidate-item.is,
      ),
    ),
  ),
)

pub normalizes_to::projections::group_term-loop-candidate-preserved :
    goal.normalizes_to::projections::group_term-loop-candidate-preserved
normalizes_to::projections::group_term-loop-candidate-preserved t c = record {
  kept = keeps-chain c.args.terms.now c.loop-candidate.terms c.consider_term.new.terms c.loop-candidate.invariant.kept c.in_ok-next.ensures.kept;
  effects = search (rules, caching);
  within = merged-in c.consider_term.new.terms c.loop-candidate.found c.in_ok-next.next.found c.merge_terms-found.result c.merge_terms-found.ensures
      (found_in-grown c.loop-candidate.terms c.consider_term.new.terms c.in_ok-next.ensures.kept c.loop-candidate.found c.loop-candidate.invariant.within) c.in_ok-next.ensures.within;
  says = λ m s.
      group-more (setting_in c.args.setting.now m) (level_in c.args.setting.now m c.args.depth) (consistent c.args.setting.now m c.args.depth) c.args.terms.now c.loop-candidate.terms c.consider_term.new.terms
      c.loop-candidate.invariant.kept c.in_ok-next.ensures.kept c.args.projection.now c.requires.projection c.args.candidates.now c.loop-candidate.candidate-index c.candidate-item.result c.loop-candidate-test.true
      c.candidate-item.is c.requires.candidates c.loop-candidate.found c.in_ok-next.next c.merge_terms-found.result c.loop-candidate.invariant.within c.merge_terms-found.ensures
      (c.loop-candidate.invariant.says m s) (c.in_ok-next.ensures.says m s);
  told = λ m s.
      decided-more (setting_in c.args.setting.now m) (level_in c.args.setting.now m c.args.depth) c.args.terms.now c.loop-candidate.terms c.consider_term.new.terms c.loop-candidate.invariant.kept
      c.args.projection.now c.requires.projection c.args.candidates.now c.loop-candidate.candidate-index c.candidate-item.result c.loop-candidate-test.true c.candidate-item.is c.requires.candidates
      c.loop-candidate.decided (c.loop-candidate.decided || c.in_ok-next.next.decides) c.in_ok-next.next refl (c.loop-candidate.invariant.told m s) (c.in_ok-next.ensures.says m s);
}

pub normalizes_to::projections::group_term-returns-clause-says :
    goal.normalizes_to::projections::group_term-returns-clause-says
normalizes_to::projections::group_term-returns-clause-says t c = λ m s.
    group-end (setting_in c.args.setting.now m) (level_in c.args.setting.now m c.args.depth) (consistent c.args.setting.now m c.args.depth) c.args.terms.now c.loop-candidate.terms c.args.projection.now c.args.candidates.now c.loop-candidate.candidate-index
    c.loop-candidate.found c.if_decided.result c.loop-candidate.decided c.loop-candidate-test.false (c.loop-candidate.invariant.says m s) (c.loop-candidate.invariant.told m s) c.if_decided.ensures

pub normalizes_to::projections::groups_term-returns-in-Undecided-clause-says :
    goal.normalizes_to::projections::groups_term-returns-in-Undecided-clause-says
normalizes_to::projections::groups_term-returns-in-Undecided-clause-says t c = λ m s.
    groups-undecided (setting_in c.args.setting.now m) (level_in c.args.setting.now m c.args.depth) c.args.proven.now.class (projection_at c.args.terms.now c.args.proven.now.projection)
    (erased_at c.args.terms.now c.args.proven.now.projection.rigid_alias) (erased_at c.args.terms.now c.args.proven.now.given)
    (second_group (setting_in c.args.setting.now m) c.args.proven.now.projection.item.now.trait_id (erased_at c.args.terms.now c.args.proven.now.self_ty) c.args.proven.now.class)
    (rw c.in-Undecided.is at (c.in_ok-environment_term.ensures.says m s))

pub normalizes_to::projections::groups_term-returns-in-Is-clause-says :
    goal.normalizes_to::projections::groups_term-returns-in-Is-clause-says
normalizes_to::projections::groups_term-returns-in-Is-clause-says t c = λ m s.
    groups-by_environment (setting_in c.args.setting.now m) (level_in c.args.setting.now m c.args.depth) (consistent c.args.setting.now m c.args.depth) c.args.proven.now.class
    c.args.terms.now c.environment_term.new.terms c.own_args_normalized.new.terms c.in_ok-environment_term.ensures.kept c.args.proven.now.projection c.requires.projection (erased_at c.args.terms.now c.args.proven.now.given)
    (second_group (setting_in c.args.setting.now m) c.args.proven.now.projection.item.now.trait_id (erased_at c.args.terms.now c.args.proven.now.self_ty) c.args.proven.now.class) (erased_at c.environment_term.new.terms c.in-Is.term)
    (rw c.in-Is.is at (c.in_ok-environment_term.ensures.says m s)) c.own_args_normalized.result (c.own_args_normalized.ensures.says m s)

pub normalizes_to::projections::groups_term-returns-in-Refuted-clause-says :
    goal.normalizes_to::projections::groups_term-returns-in-Refuted-clause-says
normalizes_to::projections::groups_term-returns-in-Refuted-clause-says t c = λ m s.
    groups-by_later (setting_in c.args.setting.now m) (level_in c.args.setting.now m c.args.depth) (consistent c.args.setting.now m c.args.depth) c.args.proven.now.class c.args.proven.now.projection.item.now.trait_id
    c.args.terms.now c.environment_term.new.terms c.later_term.new.terms c.in_ok-environment_term.ensures.kept c.args.proven.now.projection c.requires.projection c.args.proven.now.given c.args.proven.now.self_ty
    c.requires.given c.requires.self_ty (rw c.in-Refuted.is at (c.in_ok-environment_term.ensures.says m s)) c.later_term.result (c.later_term.ensures.says m s)

pub normalizes_to::projections::head_forms_outcome-returns-in-Refuted-clause-says :
    goal.normalizes_to::projections::head_forms_outcome-returns-in-Refuted-clause-says
normalizes_to::projections::head_forms_outcome-returns-in-Refuted-clause-says t c = λ m s.
    forms-refuted (level_in c.args.setting.now m c.args.depth) c.args.terms.now c.loop-id.terms c.head_form.new.terms c.loop-id.invariant.kept c.args.ids.now c.requires.ids c.loop-id.id-index
    (get_or c.args.ids.now c.loop-id.id-index (record { 0 = 0 })) c.loop-id-test.true (same_element c.args.ids.now c.loop-id.id-index (record { 0 = 0 }) c.loop-id-test.true)
    c.in_ok-head_form.field-0 c.in-Refuted.is (c.in_ok-head_form.ensures.says m s)

pub normalizes_to::projections::head_forms_outcome-loop-id-preserved :
    goal.normalizes_to::projections::head_forms_outcome-loop-id-preserved
normalizes_to::projections::head_forms_outcome-loop-id-preserved t c =
    elim c.match-branch-2.branch [
      | normalizes_to::projections::head_forms_outcome-in-Undecided w ↦ record {
        kept = keeps-chain c.args.terms.now c.loop-id.terms c.head_form.new.terms c.loop-id.invariant.kept c.in_ok-head_form.ensures.kept;
        effects = search (rules, caching);
        says = λ m s.
            forms-unknown (level_in c.args.setting.now m c.args.depth) (consistent c.args.setting.now m c.args.depth) c.args.terms.now c.loop-id.terms c.head_form.new.terms c.loop-id.invariant.kept
            c.args.ids.now c.requires.ids c.loop-id.id-index (get_or c.args.ids.now c.loop-id.id-index (record { 0 = 0 })) c.loop-id-test.true
            (same_element c.args.ids.now c.loop-id.id-index (record { 0 = 0 }) c.loop-id-test.true) c.in_ok-head_form.field-0 w.in-Undecided.is (c.in_ok-head_form.ensures.says m s)
            c.loop-id.outcome c.match-branch-2.outcome w.outcome-is (c.loop-id.invariant.says m s);
      }
      | normalizes_to::projections::head_forms_outcome-in-Is w ↦ record {
        kept = keeps-chain c.args.terms.now c.loop-id.terms c.head_form.new.terms c.loop-id.invariant.kept c.in_ok-head_form.ensures.kept;
        effects = search (rules, caching);
        says = λ m s.
            forms-more (level_in c.args.setting.now m c.args.depth) (consistent c.args.setting.now m c.args.depth) c.args.terms.now c.loop-id.terms c.head_form.new.terms c.loop-id.invariant.kept
            c.args.ids.now c.requires.ids c.loop-id.id-index (get_or c.args.ids.now c.loop-id.id-index (record { 0 = 0 })) c.loop-id-test.true
            (same_element c.args.ids.now c.loop-id.id-index (record { 0 = 0 }) c.loop-id-test.true) c.in_ok-head_form.field-0 w.in-Is.field-0 w.in-Is.is (c.in_ok-head_form.ensures.says m s)
            c.loop-id.outcome c.match-branch-2.outcome w.outcome-is (c.loop-id.invariant.says m s);
      }
    ]

pub normalizes_to::projections::head_forms_outcome-returns-clause-says :
    goal.normalizes_to::projections::head_forms_outcome-returns-clause-says
normalizes_to::projections::head_forms_outcome-returns-clause-says t c = λ m s.
    forms-end (level_in c.args.setting.now m c.args.depth) c.args.terms.now c.args.ids.now c.loop-id.id-index c.loop-id-test.false c.loop-id.outcome (c.loop-id.invariant.says m s)

pub normalizes_to::projections::item_term-returns-then-is_empty-clause-says :
    goal.normalizes_to::projections::item_term-returns-then-is_empty-clause-says
normalizes_to::projections::item_term-returns-then-is_empty-clause-says t c = λ m s.
    item-none (setting_in c.args.setting.now m) (level_in c.args.setting.now m c.args.depth) c.args.alias.now.kind c.args.rows.now.item.now c.args.rows.now.trait_row.now c.args.terms.now c.args.alias.now.args.now
    (no_args c.args.alias.now.args.now c.is_empty.result c.is_empty.ensures c.if-is_empty.true)

pub normalizes_to::projections::item_term-returns-in-Undecided-clause-says :
    goal.normalizes_to::projections::item_term-returns-in-Undecided-clause-says
normalizes_to::projections::item_term-returns-in-Undecided-clause-says t c = λ m s.
    item-undecided (setting_in c.args.setting.now m) (level_in c.args.setting.now m c.args.depth) c.args.alias.now.kind c.args.rows.now.item.now c.args.rows.now.trait_row.now c.args.terms.now c.args.alias.now.args.now
    c.first_of-trait_args.result.now c.len-trait_params.result (c.len-trait_params.ensures ∙ c.args.rows.now.trait_row.now.params.ok.0) c.first_of-trait_args.ensures
    (rw c.in-Undecided.is at (c.in_ok-plain.ensures.says m s))

pub normalizes_to::projections::item_term-returns-in-Refuted-clause-says :
    goal.normalizes_to::projections::item_term-returns-in-Refuted-clause-says
normalizes_to::projections::item_term-returns-in-Refuted-clause-says t c = λ m s.
    item-refuted (setting_in c.args.setting.now m) (level_in c.args.setting.now m c.args.depth) c.args.alias.now.kind c.args.rows.now.item.now c.args.rows.now.trait_row.now c.args.terms.now c.args.alias.now.args.now
    c.first_of-trait_args.result.now (some_args c.args.alias.now.args.now c.is_empty.result c.is_empty.ensures c.if-is_empty.false) c.len-trait_params.result
    (c.len-trait_params.ensures ∙ c.args.rows.now.trait_row.now.params.ok.0) c.first_of-trait_args.ensures (rw c.in-Refuted.is at (c.in_ok-plain.ensures.says m s))

pub normalizes_to::projections::item_term-returns-in-Holds-clause-says :
    goal.normalizes_to::projections::item_term-returns-in-Holds-clause-says
normalizes_to::projections::item_term-returns-in-Holds-clause-says t c = λ m s.
    item-says (setting_in c.args.setting.now m) (level_in c.args.setting.now m c.args.depth) (consistent c.args.setting.now m c.args.depth) c.args.alias.now.kind c.args.rows.now.item.now c.args.rows.now.trait_row.now c.in-Holds.class
    c.args.terms.now c.evaluate_trait_goal.new.terms c.term_proven_via.new.terms c.in_ok-plain.ensures.kept c.args.alias.now.args.now c.first_of-trait_args.result.now c.requires.args
    c.len-trait_params.result (c.len-trait_params.ensures ∙ c.args.rows.now.trait_row.now.params.ok.0) c.first_of-trait_args.ensures
    (rw c.in-Holds.is at (c.in_ok-plain.ensures.says m s)) c.term_proven_via.result (c.term_proven_via.ensures.says m s)

pub normalizes_to::projections::later_term-returns-in_default-class-clause-says :
    goal.normalizes_to::projections::later_term-returns-in_default-class-clause-says
normalizes_to::projections::later_term-returns-in_default-class-clause-says t c = λ m s.
    later-by_second (setting_in c.args.setting.now m) (level_in c.args.setting.now m c.args.depth) (consistent c.args.setting.now m c.args.depth) c.args.proven.now.class
    c.args.terms.now c.second_term.new.terms c.own_args_normalized.new.terms c.in_ok-second_term.ensures.kept c.args.proven.now.projection c.requires.projection (erased_at c.args.terms.now c.args.proven.now.given)
    (second_group (setting_in c.args.setting.now m) c.args.proven.now.projection.item.now.trait_id (erased_at c.args.terms.now c.args.proven.now.self_ty) c.args.proven.now.class) (erased_at c.second_term.new.terms c.in-Is.term)
    c.in_default-class.not-Misc (rw c.in-Is.is at (c.in_ok-second_term.ensures.says m s)) c.own_args_normalized.result (c.own_args_normalized.ensures.says m s)

pub normalizes_to::projections::projection_term-returns-in_default-clause-says :
    goal.normalizes_to::projections::projection_term-returns-in_default-clause-says
normalizes_to::projections::projection_term-returns-in_default-clause-says t c = λ m s.
    projection-without_item (setting_in c.args.setting.now m) (level_in c.args.setting.now m c.args.depth) c.args.alias.now.kind c.args.item (erased_all c.args.terms.now c.args.alias.now.args.now) c.in_default.ensures

pub normalizes_to::projections::projection_term-returns-in_default-trait_row-clause-says :
    goal.normalizes_to::projections::projection_term-returns-in_default-trait_row-clause-says
normalizes_to::projections::projection_term-returns-in_default-trait_row-clause-says t c = λ m s.
    projection-without_trait (setting_in c.args.setting.now m) (level_in c.args.setting.now m c.args.depth) c.args.alias.now.kind c.args.item (erased_all c.args.terms.now c.args.alias.now.args.now) c.in-Some.row.now
    c.in-Some.ensures c.in_default-trait_row.ensures

pub normalizes_to::projections::projection_term-returns-clause-says :
    goal.normalizes_to::projections::projection_term-returns-clause-says
normalizes_to::projections::projection_term-returns-clause-says t c = λ m s.
    projection-says (setting_in c.args.setting.now m) (level_in c.args.setting.now m c.args.depth) c.args.alias.now.kind c.args.item (erased_all c.args.terms.now c.args.alias.now.args.now) c.item_term.new.terms
    c.in-Some.row.now c.in-Some-trait_row.trait_row.now c.in-Some.ensures c.in-Some-trait_row.ensures c.item_term.result (c.item_term.ensures.says m s)

pub normalizes_to::projections::replaced_term-intern_alias-requires-2 :
    goal.normalizes_to::projections::replaced_term-intern_alias-requires-2
normalizes_to::projections::replaced_term-intern_alias-requires-2 t c =
    self_args-grown c.args.terms.now c.intern_alias.new.terms c.in_ok-alias.ensures.kept c.args.self_ty c.args.given.now.args.now c.as_slice.result.now c.requires.self_ty c.requires.args
    (c.as_slice.ensures.value ∙ c.in_ok-args.ensures)

pub normalizes_to::projections::replaced_term-groups_term-requires :
    goal.normalizes_to::projections::replaced_term-groups_term-requires
normalizes_to::projections::replaced_term-groups_term-requires t c =
    let chain : Keeps c.args.terms.now c.intern_alias-2.new.terms =
    keeps-chain c.args.terms.now c.intern_alias.new.terms c.intern_alias-2.new.terms c.in_ok-alias.ensures.kept c.in_ok-rigid_alias.ensures.kept in (
      search rules,
      (
        sound-grown c.args.setting.now c.args.terms.now c.intern_alias-2.new.terms c.args.effects.now chain c.requires.effects,
        (
          (self_args-grown c.args.terms.now c.intern_alias-2.new.terms chain c.args.self_ty c.args.given.now.args.now c.as_slice-2.result.now c.requires.self_ty c.requires.args (c.as_slice-2.ensures.value ∙ c.in_ok-args.ensures), c.in_ok-rigid_alias.ensures.within),
          (
            in-grown c.args.terms.now c.intern_alias-2.new.terms chain c.args.self_ty c.requires.self_ty,
            in-grown c.intern_alias.new.terms c.intern_alias-2.new.terms c.in_ok-rigid_alias.ensures.kept c.in_ok-alias.alias c.in_ok-alias.ensures.within,
          ),
        ),
      ),
    )

pub normalizes_to::projections::replaced_term-returns-clause-says :
    goal.normalizes_to::projections::replaced_term-returns-clause-says
normalizes_to::projections::replaced_term-returns-clause-says t c = λ m s.
    replaced-says (setting_in c.args.setting.now m) (level_in c.args.setting.now m c.args.depth) c.args.given.now.kind c.args.given.now.class
    c.args.terms.now c.intern_alias.new.terms c.intern_alias-2.new.terms c.groups_term.new.terms c.in_ok-alias.ensures.kept c.in_ok-rigid_alias.ensures.kept
    (keeps-chain c.args.terms.now c.intern_alias.new.terms c.intern_alias-2.new.terms c.in_ok-alias.ensures.kept c.in_ok-rigid_alias.ensures.kept)
    (record { item = c.args.given.now.item; trait_params = c.args.given.now.trait_params; args = c.as_slice-2.result; rigid_alias = c.in_ok-rigid_alias.rigid_alias })
    c.args.given.now.args.now c.as_slice.result.now c.in_ok-alias.alias c.args.self_ty c.requires.args c.requires.self_ty c.in_ok-alias.ensures.within
    (c.as_slice-2.ensures.value ∙ c.in_ok-args.ensures) (c.as_slice.ensures.value ∙ c.in_ok-args.ensures) c.in_ok-alias.ensures.tree c.in_ok-rigid_alias.ensures.tree
    c.groups_term.result (c.groups_term.ensures.says m s)

pub normalizes_to::projections::second_term-returns-clause-says :
    goal.normalizes_to::projections::second_term-returns-clause-says
normalizes_to::projections::second_term-returns-clause-says t c = λ m s.
    group-fitting (setting_in c.args.setting.now m) c.args.depth c.args.terms.now c.second_group.new.terms c.group_term.new.terms c.in_ok-candidates.ensures.kept
    c.args.proven.now.projection c.requires.projection c.first_of.result.now c.first_of.ensures (map (candidate_at c.second_group.new.terms) c.as_slice.result.now)
    (second_group (setting_in c.args.setting.now m) c.args.proven.now.projection.item.now.trait_id (erased_at c.args.terms.now c.args.proven.now.self_ty) c.args.proven.now.class)
    (ap (map (candidate_at c.second_group.new.terms)) c.as_slice.ensures.value ∙ c.in_ok-candidates.ensures.candidates m c.args.setting.now.environment.now)
    c.group_term.result (c.group_term.ensures.says m s)

pub normalizes_to::projections::second_term-group_term-requires : goal.normalizes_to::projections::second_term-group_term-requires
normalizes_to::projections::second_term-group_term-requires t c = (
  omega arith,
  (
    search (rules, caching),
    (
      (
        are_in-grown c.args.terms.now c.second_group.new.terms c.in_ok-candidates.ensures.kept c.args.proven.now.projection.args.now c.requires.projection.0,
        in-grown c.args.terms.now c.second_group.new.terms c.in_ok-candidates.ensures.kept c.args.proven.now.projection.rigid_alias c.requires.projection.1,
      ),
      (
        subst (All (CandidateIn c.second_group.new.terms)) (sym c.as_slice.ensures.value) c.in_ok-candidates.ensures.within,
        second-rows (setting_of c.args.setting.now.rows.now mode.ErasedNotCoherence c.args.setting.now.environment.now) c.second_group.new.terms
            (trees_at c.args.terms.now c.first_of.result.now) c.args.proven.now.projection.item.now.trait_id (erased_at c.args.terms.now c.args.proven.now.self_ty) c.args.proven.now.class c.as_slice.result.now
            (ap (map (candidate_at c.second_group.new.terms)) c.as_slice.ensures.value
            ∙ c.in_ok-candidates.ensures.candidates mode.ErasedNotCoherence c.args.setting.now.environment.now),
      ),
    ),
  ),
)

pub normalizes_to::projections::second_term-second_group-requires : goal.normalizes_to::projections::second_term-second_group-requires
normalizes_to::projections::second_term-second_group-requires t c = record {
  self_ty = c.requires.self_ty;
  args = subst (AreIn c.args.terms.now) (sym c.first_of.ensures) (All-take (IsIn c.args.terms.now) c.args.proven.now.projection.trait_params c.args.proven.now.projection.args.now c.requires.projection.0);
}

pub normalizes_to::projections::term_proven_via-returns-in-Refuted-clause-says :
    goal.normalizes_to::projections::term_proven_via-returns-in-Refuted-clause-says
normalizes_to::projections::term_proven_via-returns-in-Refuted-clause-says t c = λ m s.
    let some : 0 < length c.args.given.now.args.now = some_args c.args.given.now.args.now c.is_empty.result c.is_empty.ensures c.if-is_empty.false in
    through-unformed (setting_in c.args.setting.now m) (level_in c.args.setting.now m c.args.depth) c.args.given.now.kind c.args.given.now.item.now c.args.given.now.trait_params c.args.given.now.class
    c.args.terms.now c.args.given.now.args.now (get_or c.args.given.now.args.now 0 (record { 0 = 0 })) (same_element c.args.given.now.args.now 0 (record { 0 = 0 }) some)
    (refuted-unformed (level_in c.args.setting.now m c.args.depth) (consistent c.args.setting.now m c.args.depth) (erased_at c.args.terms.now (get_or c.args.given.now.args.now 0 (record { 0 = 0 })))
    (rw c.in-Refuted.is at (c.in_ok-head_form.ensures.says m s)))

pub normalizes_to::projections::term_proven_via-returns-in-Is-clause-says :
    goal.normalizes_to::projections::term_proven_via-returns-in-Is-clause-says
normalizes_to::projections::term_proven_via-returns-in-Is-clause-says t c = λ m s.
    let some : 0 < length c.args.given.now.args.now = some_args c.args.given.now.args.now c.is_empty.result c.is_empty.ensures c.if-is_empty.false in
    through-says (setting_in c.args.setting.now m) (level_in c.args.setting.now m c.args.depth) (consistent c.args.setting.now m c.args.depth) c.args.given.now.kind c.args.given.now.item.now
    c.args.given.now.trait_params c.args.given.now.class c.args.terms.now c.head_form.new.terms c.replaced_term.new.terms c.in_ok-head_form.ensures.kept c.args.given.now.args.now c.requires.args
    (get_or c.args.given.now.args.now 0 (record { 0 = 0 })) (erased_at c.head_form.new.terms c.in-Is.self_ty) some (same_element c.args.given.now.args.now 0 (record { 0 = 0 }) some)
    (rw c.in-Is.is at (c.in_ok-head_form.ensures.says m s)) c.replaced_term.result (c.replaced_term.ensures.says m s)

pub relate::equality::compare_forms-returns-then-same_erased-clause-says : goal.relate::equality::compare_forms-returns-then-same_erased-clause-says
relate::equality::compare_forms-returns-then-same_erased-clause-says t c = λ m stands.
    same-form (level_in c.args.setting.now m c.args.depth) (erased_at c.args.terms.now c.args.form) (erased_at c.args.terms.now c.args.other)
    (c.same_erased.ensures.0 c.if-same_erased.true)

pub relate::equality::compare_forms-returns-then-not-is_same-clause-says : goal.relate::equality::compare_forms-returns-then-not-is_same-clause-says
relate::equality::compare_forms-returns-then-not-is_same-clause-says t c = λ m stands.
    other-node (level_in c.args.setting.now m c.args.depth) (erased_at c.args.terms.now c.args.form) (erased_at c.args.terms.now c.args.other)
    (nodes-differ (tree_at c.args.terms.now c.args.form) (tree_at c.args.terms.now c.args.other)
    (tops-differ c.node-node.result c.node.result (tree_at c.args.terms.now c.args.form) (tree_at c.args.terms.now c.args.other) c.is_same.result
    c.is_same.ensures c.node-node.ensures.top c.node.ensures.top c.if-not-is_same.true))

pub relate::equality::compare_forms-collect_lists-requires-clause-alike : goal.relate::equality::compare_forms-collect_lists-requires-clause-alike
relate::equality::compare_forms-collect_lists-requires-clause-alike t c =
    lists-of_one_kind c.args.terms.now c.args.form c.args.other c.parts.result.now c.parts-2.result.now c.requires.first.0 c.requires.second.0
    c.parts.ensures.trees c.parts.ensures.earlier c.parts-2.ensures.trees c.parts-2.ensures.earlier
    (parts-of_one_kind (tree_at c.args.terms.now c.args.form) (tree_at c.args.terms.now c.args.other) c.node-node.result c.node.result
    c.node-node.ensures.top c.node.ensures.top
    (tops-same c.node-node.result c.node.result (tree_at c.args.terms.now c.args.form) (tree_at c.args.terms.now c.args.other) c.is_same.result
    c.is_same.ensures c.node-node.ensures.top c.node.ensures.top c.if-not-is_same.false)
    c.node-node.ensures.fits c.node.ensures.fits)

pub relate::equality::compare_forms-returns-clause-says : goal.relate::equality::compare_forms-returns-clause-says
relate::equality::compare_forms-returns-clause-says t c = λ m stands.
    forms-compared c.compare_pending.result (setting_in c.args.setting.now m) c.args.depth c.args.terms.now c.new-pending.result c.collect_lists.new.pending
    c.args.form c.args.other c.parts.result.now c.parts-2.result.now
    (λ e. false≢true (sym c.if-same_erased.false ∙ c.same_erased.ensures.1 e))
    (nodes-same (tree_at c.args.terms.now c.args.form) (tree_at c.args.terms.now c.args.other)
    (tops-same c.node-node.result c.node.result (tree_at c.args.terms.now c.args.form) (tree_at c.args.terms.now c.args.other) c.is_same.result
    c.is_same.ensures c.node-node.ensures.top c.node.ensures.top c.if-not-is_same.false))
    c.parts.ensures.trees c.parts-2.ensures.trees c.new-pending.ensures.outcome c.new-pending.ensures.pairs c.in_ok-collect_lists.ensures.adds
    (c.compare_pending.ensures.says m stands)

pub relate::equality::compare_pair-returns-then-depth-eq0-clause-says : goal.relate::equality::compare_pair-returns-then-depth-eq0-clause-says
relate::equality::compare_pair-returns-then-depth-eq0-clause-says t c = λ m stands.
    pair-ground (setting_in c.args.setting.now m) c.args.depth (omega arith)
    (erased_at c.args.terms.now c.args.pair.left) (erased_at c.args.terms.now c.args.pair.right) c.requires.within.2

pub relate::equality::compare_pair-returns-in-Found-clause-says : goal.relate::equality::compare_pair-returns-in-Found-clause-says
relate::equality::compare_pair-returns-in-Found-clause-says t c = λ m stands.
    pair-found_ok (setting_in c.args.setting.now m) (c.args.depth - 1) c.args.depth (omega arith)
    c.args.terms.now c.head_form.new.terms c.head_form-2.new.terms c.head_form.ensures.kept c.head_form-2.ensures.kept c.args.pair c.requires.within
    c.in_ok-left.left c.in_ok-right.right (c.in_ok-left.ensures.says m stands) (c.in_ok-right.ensures.says m stands)
    c.compare_forms.result c.in_ok-left.ensures.within c.in-Found.form c.in-Found.other c.in-Found.ensures (c.compare_forms.ensures.says m stands)

pub relate::equality::compare_pair-returns-in-Lacking-clause-says : goal.relate::equality::compare_pair-returns-in-Lacking-clause-says
relate::equality::compare_pair-returns-in-Lacking-clause-says t c = λ m stands.
    pair-lacking (setting_in c.args.setting.now m) (c.args.depth - 1) c.args.depth (omega arith)
    c.args.terms.now c.head_form.new.terms c.head_form-2.new.terms c.head_form.ensures.kept c.head_form-2.ensures.kept c.args.pair c.requires.within
    c.in_ok-left.left c.in_ok-right.right (c.in_ok-left.ensures.says m stands) (c.in_ok-right.ensures.says m stands)
    c.in-Lacking.outcome c.in-Lacking.ensures

pub relate::equality::compare_pending-loop-pair-preserved : goal.relate::equality::compare_pending-loop-pair-preserved
relate::equality::compare_pending-loop-pair-preserved t c = (
  keeps-chain c.args.terms.now c.loop-pair.terms c.compare_pair.new.terms c.loop-pair.invariant.0 c.compare_pair.ensures.kept,
  λ m stands.
      narrows-more (setting_in c.args.setting.now m) c.args.depth c.args.terms.now c.loop-pair.terms c.loop-pair.invariant.0
      c.args.pending.now.outcome c.args.pending.now.pairs.items c.loop-pair.outcome c.deref-pair-items.result.now c.loop-pair.pair-index (record { left = record { 0 = 0 }; right = record { 0 = 0 } })
      (omega arith) (c.loop-pair.invariant.1 m stands)
      (All-get_or (IsOpen c.args.terms.now) c.deref-pair-items.result.now c.loop-pair.pair-index _ (omega arith)
      (All-same (IsOpen c.args.terms.now) c.deref-pair-items.result.now c.args.pending.now.pairs.items c.deref-pair-items.ensures.value c.requires.within))
      c.in_ok-next.next (c.in_ok-next.ensures.says m stands) c.and-outcome.result c.and-outcome.ensures,
  search (rules, caching),
)

pub relate::equality::compare_pending-returns-clause-says : goal.relate::equality::compare_pending-returns-clause-says
relate::equality::compare_pending-returns-clause-says t c = λ m stands.
    narrows-end (level_in c.args.setting.now m c.args.depth) c.args.terms.now c.args.pending.now.outcome c.args.pending.now.pairs.items
    c.loop-pair.outcome c.deref-pair-items.result.now c.loop-pair.pair-index (omega arith) (c.loop-pair.invariant.1 m stands)

pub relate::equality::compare_pending-compare_pair-requires : goal.relate::equality::compare_pending-compare_pair-requires
relate::equality::compare_pending-compare_pair-requires t c = (
  omega arith,
  (
    search (rules, caching),
    open-grown c.args.terms.now c.loop-pair.terms c.loop-pair.invariant.0 _
        (All-get_or (IsOpen c.args.terms.now) c.deref-pair-items.result.now c.loop-pair.pair-index (record { left = record { 0 = 0 }; right = record { 0 = 0 } }) (omega arith)
        (All-same (IsOpen c.args.terms.now) c.deref-pair-items.result.now c.args.pending.now.pairs.items c.deref-pair-items.ensures.value c.requires.within)),
  ),
)

pub relate::equality::compare_pair-compare_forms-requires : goal.relate::equality::compare_pair-compare_forms-requires
relate::equality::compare_pair-compare_forms-requires t c = (
  omega arith,
  (
    search (rules, caching),
    found-in c.head_form.new.terms c.head_form-2.new.terms c.head_form-2.ensures.kept c.in_ok-left.left c.in_ok-right.right
        c.in_ok-left.ensures.within c.in_ok-right.ensures.within c.in-Found.form c.in-Found.other c.in-Found.ensures,
  ),
)

pub relate::equality::compare_pending-returns-then-is_refuted-clause-says : goal.relate::equality::compare_pending-returns-then-is_refuted-clause-says
relate::equality::compare_pending-returns-then-is_refuted-clause-says t c = λ m stands.
    narrows-refuted (level_in c.args.setting.now m c.args.depth) c.args.terms.now c.args.pending.now.outcome c.args.pending.now.pairs.items
    c.loop-pair.outcome _ (c.is_refuted.ensures.0 c.if-is_refuted.true) (c.loop-pair.invariant.1 m stands)

pub relate::equality::compare_lists-returns-clause-says : goal.relate::equality::compare_lists-returns-clause-says
relate::equality::compare_lists-returns-clause-says t c = λ m stands.
    left-over_ok c.compare_pending.result (setting_in c.args.setting.now m) c.args.depth c.args.terms.now c.new-pending.result c.collect_lists.new.pending
    (λ L. Pairs L.equal (erased_all c.args.terms.now c.args.left.now) (erased_all c.args.terms.now c.args.right.now))
    (λ L. SomePair L.unequal (erased_all c.args.terms.now c.args.left.now) (erased_all c.args.terms.now c.args.right.now))
    c.new-pending.ensures.outcome c.new-pending.ensures.pairs c.in_ok-collect_lists.ensures.adds (c.compare_pending.ensures.says m stands)

pub relate::equality::compare_terms-returns-clause-says : goal.relate::equality::compare_terms-returns-clause-says
relate::equality::compare_terms-returns-clause-says t c = λ m stands.
    left-over_ok c.compare_pending.result (setting_in c.args.setting.now m) c.args.depth c.args.terms.now c.new-pending.result c.collect.new.pending
    (λ L. L.equal (erased_at c.args.terms.now c.args.left) (erased_at c.args.terms.now c.args.right))
    (λ L. L.unequal (erased_at c.args.terms.now c.args.left) (erased_at c.args.terms.now c.args.right))
    c.new-pending.ensures.outcome c.new-pending.ensures.pairs c.in_ok-collect.ensures.adds (c.compare_pending.ensures.says m stands)

pub eval::premises::conditions_outcome-loop-condition-init : goal.eval::premises::conditions_outcome-loop-condition-init
eval::premises::conditions_outcome-loop-condition-init t c = record {
  kept = keeps-refl c.args.terms.now;
  effects = search (rules, caching);
  so_far = premises-start c.args.setting.now c.args.depth (condition_at c.args.constness c.args.terms.now) c.args.conditions.now;
}

pub eval::premises::conditions_outcome-loop-condition-preserved : goal.eval::premises::conditions_outcome-loop-condition-preserved
eval::premises::conditions_outcome-loop-condition-preserved t c = record {
  kept = keeps-chain c.args.terms.now c.loop-condition.terms c.evaluate_host_effect_goal.new.terms c.loop-condition.invariant.kept c.evaluate_host_effect_goal.ensures.kept;
  effects = search (rules, caching);
  so_far =
      subst (PremisesSay c.args.setting.now c.args.depth (condition_at c.args.constness c.args.terms.now) c.args.conditions.now (c.loop-condition.condition-index + 1)) (sym c.and-found.ensures)
      (conditions-step c.args.setting.now c.args.depth c.args.constness c.args.terms.now c.loop-condition.terms c.args.conditions.now c.loop-condition.condition-index c.condition-item.result c.deref.result.now c.loop-condition.found c.in_ok-next.next
      c.loop-condition.invariant.kept c.requires.within (omega arith) c.condition-item.is c.deref.ensures.value c.loop-condition.invariant.so_far c.in_ok-next.ensures.says);
}

pub eval::premises::conditions_outcome-returns-in-Refuted-clause-says : goal.eval::premises::conditions_outcome-returns-in-Refuted-clause-says
eval::premises::conditions_outcome-returns-in-Refuted-clause-says t c =
    conditions-refuted c.args.setting.now c.args.depth c.args.constness c.args.terms.now c.args.conditions.now (c.loop-condition.condition-index + 1) (both c.loop-condition.found c.in_ok-next.next) (sym c.and-found.ensures ∙ c.in-Refuted.is)
    (conditions-step c.args.setting.now c.args.depth c.args.constness c.args.terms.now c.loop-condition.terms c.args.conditions.now c.loop-condition.condition-index c.condition-item.result c.deref.result.now c.loop-condition.found c.in_ok-next.next
    c.loop-condition.invariant.kept c.requires.within (omega arith) c.condition-item.is c.deref.ensures.value c.loop-condition.invariant.so_far c.in_ok-next.ensures.says)

pub eval::premises::conditions_outcome-returns-clause-says : goal.eval::premises::conditions_outcome-returns-clause-says
eval::premises::conditions_outcome-returns-clause-says t c =
    conditions-end c.args.setting.now c.args.depth c.args.constness c.args.terms.now c.args.conditions.now c.loop-condition.condition-index c.loop-condition.found (omega arith)
    c.loop-condition.invariant.so_far

pub eval::premises::conditions_outcome-evaluate_host_effect_goal-requires : goal.eval::premises::conditions_outcome-evaluate_host_effect_goal-requires
eval::premises::conditions_outcome-evaluate_host_effect_goal-requires t c = (
  omega (arith, c.decreases),
  (
    search (rules, caching),
    subst (AreIn c.loop-condition.terms) (sym c.deref.ensures.value)
        (condition-at c.args.constness c.args.terms.now c.loop-condition.terms c.args.conditions.now c.loop-condition.condition-index c.condition-item.result
        c.loop-condition.invariant.kept c.requires.within (omega arith) c.condition-item.is).0,
  ),
)

pub eval::premises::equation_outcome-returns-then-depth-eq0-clause-says : goal.eval::premises::equation_outcome-returns-then-depth-eq0-clause-says
eval::premises::equation_outcome-returns-then-depth-eq0-clause-says t c =
    λ m s. equation-ground (setting_in c.args.setting.now m) c.args.depth (erased_at c.args.terms.now c.args.alias) (erased_at c.args.terms.now c.args.term) c.if-depth-eq0.true

pub eval::premises::equation_outcome-returns-clause-says : goal.eval::premises::equation_outcome-returns-clause-says
eval::premises::equation_outcome-returns-clause-says t c =
    λ m s. equation-result (setting_in c.args.setting.now m) c.args.depth (erased_at c.args.terms.now c.args.alias) (erased_at c.args.terms.now c.args.term) c.compare_terms.result
    c.if-depth-eq0.false (c.compare_terms.ensures.says m s)

pub eval::lists::run_list-returns-in-None-clause-says : goal.eval::lists::run_list-returns-in-None-clause-says
eval::lists::run_list-returns-in-None-clause-says t c = λ m s q f.
    none-says (level_in c.args.setting.now m c.args.depth) c.args.setting.now c.args.terms.now q
    (subst (λ l. IsListFor c.args.setting.now (list_at c.args.terms.now l) q) c.in-None.is f)

pub eval::lists::run_list-returns-in_ok-outcome-in-Some-clause-says : goal.eval::lists::run_list-returns-in_ok-outcome-in-Some-clause-says
eval::lists::run_list-returns-in_ok-outcome-in-Some-clause-says t c = λ m s.
    list-says (level_in c.args.setting.now m c.args.depth) c.args.setting.now c.args.terms.now c.run_entries.new.terms c.args.list.now c.in-Some.entries
    c.deref.result.now (Ok c.in_ok-outcome-in-Some.outcome) c.in-Some.is c.deref.ensures.value (c.in_ok-outcome-in-Some.ensures.says m s)

pub eval::lists::run_entries-loop-entry-preserved : goal.eval::lists::run_entries-loop-entry-preserved
eval::lists::run_entries-loop-entry-preserved t c = record {
  kept = keeps-chain c.args.terms.now c.loop-entry.terms c.run_entry.new.terms c.loop-entry.invariant.kept c.run_entry.ensures.kept;
  effects = search (rules, caching);
  within = c.in_ok-run_entry.ensures.within;
  so_far = runs-next c.args.setting.now c.args.depth c.args.terms.now c.loop-entry.terms c.run_entry.new.terms c.loop-entry.invariant.kept c.args.entries.now c.requires.entries
      c.loop-entry.run c.run_entry.new.run c.loop-entry.entry-index c.entry-item.result c.in_ok-run_entry.field-0 (omega arith) c.entry-item.is c.loop-entry.invariant.so_far
      c.in_ok-run_entry.ensures.reads c.in_ok-run_entry.ensures.says c.in-Next.is;
}

pub eval::lists::run_entries-returns-in-Refuted-clause-says : goal.eval::lists::run_entries-returns-in-Refuted-clause-says
eval::lists::run_entries-returns-in-Refuted-clause-says t c =
    runs-refuted c.args.setting.now c.args.depth c.args.terms.now c.loop-entry.terms c.run_entry.new.terms c.loop-entry.invariant.kept c.args.entries.now c.requires.entries
    c.loop-entry.run c.run_entry.new.run c.loop-entry.entry-index c.entry-item.result c.in_ok-run_entry.field-0 (omega arith) c.entry-item.is c.loop-entry.invariant.so_far
    c.in_ok-run_entry.ensures.reads c.in_ok-run_entry.ensures.says c.in-Refuted.is c.run_entry.new.terms

pub eval::lists::run_entries-returns-in-Undecided-clause-says : goal.eval::lists::run_entries-returns-in-Undecided-clause-says
eval::lists::run_entries-returns-in-Undecided-clause-says t c =
    runs-undecided c.args.setting.now c.args.depth c.args.terms.now c.loop-entry.terms c.run_entry.new.terms c.loop-entry.invariant.kept c.args.entries.now c.requires.entries
    c.loop-entry.run c.run_entry.new.run c.loop-entry.entry-index c.entry-item.result c.in_ok-run_entry.field-0 (omega arith) c.entry-item.is c.loop-entry.invariant.so_far
    c.in_ok-run_entry.ensures.reads c.in_ok-run_entry.ensures.says c.in-Undecided.is c.run_entry.new.terms

pub eval::lists::run_entries-returns-clause-within : goal.eval::lists::run_entries-returns-clause-within
eval::lists::run_entries-returns-clause-within t c = end-in c.loop-entry.terms c.loop-entry.run c.outcome.result c.loop-entry.invariant.within c.outcome.ensures.holds c.outcome.ensures.undecided

pub eval::lists::run_entries-returns-clause-says : goal.eval::lists::run_entries-returns-clause-says
eval::lists::run_entries-returns-clause-says t c =
    runs-end c.args.setting.now c.args.depth c.args.terms.now c.args.entries.now c.loop-entry.terms c.loop-entry.run c.loop-entry.entry-index c.outcome.result (omega arith)
    c.loop-entry.invariant.so_far c.outcome.ensures.holds c.outcome.ensures.undecided

pub eval::lists::entries::run_entry-returns-in_ok-reached-in-Arguments-clause-within : goal.eval::lists::entries::run_entry-returns-in_ok-reached-in-Arguments-clause-within
eval::lists::entries::run_entry-returns-in_ok-reached-in-Arguments-clause-within t c = naming-in c.args.terms.now c.arguments_match.new.terms c.arguments_match.ensures.kept c.args.run.now c.name.new.self c.requires.run c.in_ok-found-in-Arguments.found c.in_ok-reached-in-Arguments.reached c.in_ok-found-in-Arguments.ensures.within c.in_ok-reached-in-Arguments.ensures

pub eval::lists::entries::run_entry-returns-in_ok-reached-in-Arguments-clause-says : goal.eval::lists::entries::run_entry-returns-in_ok-reached-in-Arguments-clause-says
eval::lists::entries::run_entry-returns-in_ok-reached-in-Arguments-clause-says t c = λ m s.
    naming-leads (level_in c.args.setting.now m c.args.depth) (each_level_is_consistent (setting_in c.args.setting.now m) c.args.depth) c.args.terms.now c.arguments_match.new.terms c.arguments_match.ensures.kept c.args.run.now c.name.new.self c.requires.run
    (entry_at c.args.terms.now c.args.entry.now) (arguments_at c.args.terms.now c.in-Arguments.arguments) (ap (entry_at c.args.terms.now) c.in-Arguments.is) c.deref.result.now c.deref.ensures.value
    c.in_ok-found-in-Arguments.found c.in_ok-reached-in-Arguments.reached (c.in_ok-found-in-Arguments.ensures.says m s) c.in_ok-reached-in-Arguments.ensures

pub eval::lists::entries::run_entry-returns-in_ok-found-in-Expected-clause-within : goal.eval::lists::entries::run_entry-returns-in_ok-found-in-Expected-clause-within
eval::lists::entries::run_entry-returns-in_ok-found-in-Expected-clause-within t c = giving-in c.args.terms.now c.term_found.new.terms c.term_found.ensures.kept c.args.run.now c.give.new.self c.requires.run c.in_ok-found-in-Expected.found c.in_ok-found-in-Expected.ensures.within c.give.ensures.run

pub eval::lists::entries::run_entry-returns-in_ok-found-in-Expected-clause-says : goal.eval::lists::entries::run_entry-returns-in_ok-found-in-Expected-clause-says
eval::lists::entries::run_entry-returns-in_ok-found-in-Expected-clause-says t c = λ m s.
    giving-leads (level_in c.args.setting.now m c.args.depth) (each_level_is_consistent (setting_in c.args.setting.now m) c.args.depth) c.args.terms.now c.term_found.new.terms c.term_found.ensures.kept c.args.run.now c.give.new.self c.requires.run
    (entry_at c.args.terms.now c.args.entry.now) (term_at c.args.terms.now c.in-Expected.term) (ap (entry_at c.args.terms.now) c.in-Expected.is) c.deref-in-Expected.result.now c.deref-in-Expected.ensures.value
    c.in_ok-found-in-Expected.found (c.in_ok-found-in-Expected.ensures.says m s) c.give.ensures.run c.give.result c.give.ensures.reached

pub eval::lists::entries::run_entry-returns-in_ok-outcome-in-EqualTerms-clause-says : goal.eval::lists::entries::run_entry-returns-in_ok-outcome-in-EqualTerms-clause-says
eval::lists::entries::run_entry-returns-in_ok-outcome-in-EqualTerms-clause-says t c = λ m s.
    asking-leads (level_in c.args.setting.now m c.args.depth) c.args.terms.now c.compare_lists.new.terms c.compare_lists.ensures.kept c.args.run.now c.ask.new.self c.requires.run (entry_at c.args.terms.now c.args.entry.now) _ (ap (entry_at c.args.terms.now) c.in-EqualTerms.is) _ _
    (terms-ask (level_in c.args.setting.now m c.args.depth) (each_level_is_consistent (setting_in c.args.setting.now m) c.args.depth) (named_at c.args.terms.now c.args.run.now.named.items) (erased_all c.args.terms.now c.in-EqualTerms.left.items) (erased_all c.args.terms.now c.in-EqualTerms.right.items))
    c.in_ok-outcome-in-EqualTerms.outcome (pairs-says (level_in c.args.setting.now m c.args.depth) (erased_all c.args.terms.now c.deref-in-EqualTerms.result.now) (erased_all c.args.terms.now c.deref-in-EqualTerms-2.result.now) (erased_all c.args.terms.now c.in-EqualTerms.left.items) (erased_all c.args.terms.now c.in-EqualTerms.right.items) c.in_ok-outcome-in-EqualTerms.outcome
    (ap (erased_all c.args.terms.now) c.deref-in-EqualTerms.ensures.value) (ap (erased_all c.args.terms.now) c.deref-in-EqualTerms-2.ensures.value) (c.in_ok-outcome-in-EqualTerms.ensures.says m s)) c.ask.ensures.run c.ask.result c.ask.ensures.reached

pub eval::lists::entries::run_entry-returns-in_ok-outcome-in-Clause-clause-says : goal.eval::lists::entries::run_entry-returns-in_ok-outcome-in-Clause-clause-says
eval::lists::entries::run_entry-returns-in_ok-outcome-in-Clause-clause-says t c = λ m s.
    asking-leads (level_in c.args.setting.now m c.args.depth) c.args.terms.now c.predicate_outcome.new.terms c.predicate_outcome.ensures.kept c.args.run.now c.ask-in-Clause.new.self c.requires.run (entry_at c.args.terms.now c.args.entry.now) _ (ap (entry_at c.args.terms.now) c.in-Clause.is) _ _
    (clause-asks (level_in c.args.setting.now m c.args.depth) (each_level_is_consistent (setting_in c.args.setting.now m) c.args.depth) (named_at c.args.terms.now c.args.run.now.named.items) c.in-Clause.field-0 (predicate_at c.args.terms.now c.in-Clause.predicate))
    c.in_ok-outcome-in-Clause.outcome (c.in_ok-outcome-in-Clause.ensures.says m s) c.ask-in-Clause.ensures.run c.ask-in-Clause.result c.ask-in-Clause.ensures.reached

pub eval::lists::entries::run_entry-returns-in_ok-outcome-in-RowClauses-clause-says : goal.eval::lists::entries::run_entry-returns-in_ok-outcome-in-RowClauses-clause-says
eval::lists::entries::run_entry-returns-in_ok-outcome-in-RowClauses-clause-says t c = λ m s.
    asking-leads (level_in c.args.setting.now m c.args.depth) c.args.terms.now c.row_outcome.new.terms c.row_outcome.ensures.kept c.args.run.now c.ask-in-RowClauses.new.self c.requires.run (entry_at c.args.terms.now c.args.entry.now) _ (ap (entry_at c.args.terms.now) c.in-RowClauses.is) _ _
    (row-asks (level_in c.args.setting.now m c.args.depth) (each_level_is_consistent (setting_in c.args.setting.now m) c.args.depth) (named_at c.args.terms.now c.args.run.now.named.items) c.in-RowClauses.clauses.now c.in-RowClauses.number)
    c.in_ok-outcome-in-RowClauses.outcome (subst (λ o. SaysRow (level_in c.args.setting.now m c.args.depth) (row.Clauses c.in-RowClauses.clauses) o c.in_ok-outcome-in-RowClauses.outcome) (c.named_args-args.ensures.numbered c.args.terms.now ∙ ap (λ ns. slice_get (named_at c.args.terms.now ns) c.in-RowClauses.number) c.deref-in-RowClauses.ensures.value)
    (c.in_ok-outcome-in-RowClauses.ensures.says m s)) c.ask-in-RowClauses.ensures.run c.ask-in-RowClauses.result c.ask-in-RowClauses.ensures.reached

pub eval::lists::entries::run_entry-row_outcome-requires : goal.eval::lists::entries::run_entry-row_outcome-requires
eval::lists::entries::run_entry-row_outcome-requires t c = (
  omega arith,
  (
    search (rules, caching),
    (λ x e.
        subst (λ o. IfSome o (AreIn c.args.terms.now)) e (c.named_args-args.ensures.within c.args.terms.now (subst (NamedIn c.args.terms.now) (sym c.deref-in-RowClauses.ensures.value) c.requires.run.0))),
  ),
)

pub eval::lists::entries::run_entry-returns-in_ok-outcome-in-RowConditions-clause-says : goal.eval::lists::entries::run_entry-returns-in_ok-outcome-in-RowConditions-clause-says
eval::lists::entries::run_entry-returns-in_ok-outcome-in-RowConditions-clause-says t c = λ m s.
    asking-leads (level_in c.args.setting.now m c.args.depth) c.args.terms.now c.row_outcome-in-RowConditions.new.terms c.row_outcome-in-RowConditions.ensures.kept c.args.run.now c.ask-in-RowConditions.new.self c.requires.run (entry_at c.args.terms.now c.args.entry.now) _ (ap (entry_at c.args.terms.now) c.in-RowConditions.is) _ _
    (conditions-ask (level_in c.args.setting.now m c.args.depth) (each_level_is_consistent (setting_in c.args.setting.now m) c.args.depth) (named_at c.args.terms.now c.args.run.now.named.items) c.in-RowConditions.constness c.in-RowConditions.refs.now c.in-RowConditions.number)
    c.in_ok-outcome-in-RowConditions.outcome (subst (λ o. SaysRow (level_in c.args.setting.now m c.args.depth) (row.Conditions c.in-RowConditions.constness c.in-RowConditions.refs) o c.in_ok-outcome-in-RowConditions.outcome) (c.named_args-args-in-RowConditions.ensures.numbered c.args.terms.now ∙ ap (λ ns. slice_get (named_at c.args.terms.now ns) c.in-RowConditions.number) c.deref-in-RowConditions.ensures.value)
    (c.in_ok-outcome-in-RowConditions.ensures.says m s)) c.ask-in-RowConditions.ensures.run c.ask-in-RowConditions.result c.ask-in-RowConditions.ensures.reached

pub eval::lists::entries::run_entry-row_outcome-requires-in-RowConditions : goal.eval::lists::entries::run_entry-row_outcome-requires-in-RowConditions
eval::lists::entries::run_entry-row_outcome-requires-in-RowConditions t c = (
  omega arith,
  (
    c.requires.effects,
    (λ x e.
        subst (λ o. IfSome o (AreIn c.args.terms.now)) e (c.named_args-args-in-RowConditions.ensures.within c.args.terms.now (subst (NamedIn c.args.terms.now) (sym c.deref-in-RowConditions.ensures.value) c.requires.run.0))),
  ),
)

pub eval::lists::entries::run_entry-returns-in-Access-clause-says : goal.eval::lists::entries::run_entry-returns-in-Access-clause-says
eval::lists::entries::run_entry-returns-in-Access-clause-says t c = λ m s.
    IfOk-weaker c.reads_mode.result (λ x. x ≡ reached.Next) (LeadsOn (level_in c.args.setting.now m c.args.depth) (progress_at c.args.terms.now c.args.run.now) (entry_at c.args.terms.now c.args.entry.now) (progress_at c.args.terms.now c.args.run.now))
    (λ x e. asking-leads (level_in c.args.setting.now m c.args.depth) c.args.terms.now c.args.terms.now (keeps-refl c.args.terms.now) c.args.run.now c.args.run.now c.requires.run (entry_at c.args.terms.now c.args.entry.now) _ (ap (entry_at c.args.terms.now) c.in-Access.is) _ _ (access-asks (level_in c.args.setting.now m c.args.depth) (named_at c.args.terms.now c.args.run.now.named.items) c.in-Access.access) outcome.Holds tt refl x e) c.reads_mode.ensures.next

pub eval::lists::entries::run_entry-returns-in_ok-meet_fault-in-DelayedFault-clause-says : goal.eval::lists::entries::run_entry-returns-in_ok-meet_fault-in-DelayedFault-clause-says
eval::lists::entries::run_entry-returns-in_ok-meet_fault-in-DelayedFault-clause-says t c = λ m s.
    asking-leads (level_in c.args.setting.now m c.args.depth) c.args.terms.now c.args.terms.now (keeps-refl c.args.terms.now) c.args.run.now c.args.run.now c.requires.run (entry_at c.args.terms.now c.args.entry.now) _ (ap (entry_at c.args.terms.now) c.in-DelayedFault.is) _ _ (fault-asks (level_in c.args.setting.now m c.args.depth) (named_at c.args.terms.now c.args.run.now.named.items) c.in-DelayedFault.fault) outcome.Holds tt refl reached.Next refl

pub eval::lists::entries::run_entry-returns-in-Evaluation-clause-says : goal.eval::lists::entries::run_entry-returns-in-Evaluation-clause-says
eval::lists::entries::run_entry-returns-in-Evaluation-clause-says t c = λ m s.
    asking-leads (level_in c.args.setting.now m c.args.depth) c.args.terms.now c.args.terms.now (keeps-refl c.args.terms.now) c.args.run.now c.args.run.now c.requires.run (entry_at c.args.terms.now c.args.entry.now) _ (ap (entry_at c.args.terms.now) c.in-Evaluation.is) _ _ (evaluation-asks (level_in c.args.setting.now m c.args.depth) (named_at c.args.terms.now c.args.run.now.named.items)) outcome.Holds tt refl reached.Next refl

pub eval::lists::entries::run_entry-returns-in-Refused-clause-says : goal.eval::lists::entries::run_entry-returns-in-Refused-clause-says
eval::lists::entries::run_entry-returns-in-Refused-clause-says t c = λ m s.
    asking-leads (level_in c.args.setting.now m c.args.depth) c.args.terms.now c.args.terms.now (keeps-refl c.args.terms.now) c.args.run.now c.args.run.now c.requires.run (entry_at c.args.terms.now c.args.entry.now) _ (ap (entry_at c.args.terms.now) c.in-Refused.is) _ _ (refused-asks (level_in c.args.setting.now m c.args.depth) (named_at c.args.terms.now c.args.run.now.named.items)) outcome.Refuted tt refl reached.Refuted refl

pub eval::lists::entries::run_entry-returns-in-Ambiguous-clause-says : goal.eval::lists::entries::run_entry-returns-in-Ambiguous-clause-says
eval::lists::entries::run_entry-returns-in-Ambiguous-clause-says t c = λ m s.
    ⊎_elim
    (λ is. asking-leads (level_in c.args.setting.now m c.args.depth) c.args.terms.now c.args.terms.now (keeps-refl c.args.terms.now) c.args.run.now c.ask-in-Ambiguous.new.self c.requires.run (entry_at c.args.terms.now c.args.entry.now) _ (ap (entry_at c.args.terms.now) is) _ _ (ambiguous-asks (level_in c.args.setting.now m c.args.depth) (named_at c.args.terms.now c.args.run.now.named.items)) outcome.Undecided
    ((λ x. x), (λ x. x)) c.ask-in-Ambiguous.ensures.run c.ask-in-Ambiguous.result c.ask-in-Ambiguous.ensures.reached)
    (λ is. asking-leads (level_in c.args.setting.now m c.args.depth) c.args.terms.now c.args.terms.now (keeps-refl c.args.terms.now) c.args.run.now c.ask-in-Ambiguous.new.self c.requires.run (entry_at c.args.terms.now c.args.entry.now) _ (ap (entry_at c.args.terms.now) is) _ _ (undecided-asks (level_in c.args.setting.now m c.args.depth) (named_at c.args.terms.now c.args.run.now.named.items)) outcome.Undecided
    ((λ x. x), (λ x. x)) c.ask-in-Ambiguous.ensures.run c.ask-in-Ambiguous.result c.ask-in-Ambiguous.ensures.reached) c.in-Ambiguous.is

pub eval::lists::entries::arguments_match-returns-in_ok-args-in-Given-clause-says : goal.eval::lists::entries::arguments_match-returns-in_ok-args-in-Given-clause-says
eval::lists::entries::arguments_match-returns-in_ok-args-in-Given-clause-says t c = λ m s.
    given-named (level_in c.args.setting.now m c.args.depth) (named_at c.args.terms.now c.args.named.now) c.args.terms.now (arguments_at c.args.terms.now c.args.arguments.now)
    (erased_all c.args.terms.now c.in-Given.ids.items) c.in_ok-args-in-Given.args (ap (arguments_at c.args.terms.now) c.in-Given.is)
    (ap (erased_all c.args.terms.now) (c.in_ok-args-in-Given.ensures ∙ c.deref.ensures.value))

pub eval::lists::entries::arguments_match-returns-in-OfHeader-clause-says : goal.eval::lists::entries::arguments_match-returns-in-OfHeader-clause-says
eval::lists::entries::arguments_match-returns-in-OfHeader-clause-says t c = λ m s.
    header-named (level_in c.args.setting.now m c.args.depth) (named_at c.args.terms.now c.args.named.now) c.header_match.new.terms (arguments_at c.args.terms.now c.args.arguments.now)
    c.in-OfHeader.header.params.now (header_trees c.in-OfHeader.header.terms) (erased_all c.args.terms.now c.in-OfHeader.given.items) (ap (arguments_at c.args.terms.now) c.in-OfHeader.is)
    (each_level_is_consistent (setting_in c.args.setting.now m) c.args.depth) (erased_all c.args.terms.now c.deref-in-OfHeader.result.now) c.header_match.result
    (ap (erased_all c.args.terms.now) c.deref-in-OfHeader.ensures.value) (c.header_match.ensures.says m s)

pub eval::lists::entries::arguments_match-returns-in_default-clause-says : goal.eval::lists::entries::arguments_match-returns-in_default-clause-says
eval::lists::entries::arguments_match-returns-in_default-clause-says t c = λ m s.
    other-unnamed (level_in c.args.setting.now m c.args.depth) (named_at c.args.terms.now c.args.named.now) c.args.terms.now (arguments_at c.args.terms.now c.args.arguments.now)
    c.in-OfOtherHeader.header.params.now (header_trees c.in-OfOtherHeader.header.terms) (trees_of c.in-OfOtherHeader.of.now) c.in-OfOtherHeader.number
    (ap (arguments_at c.args.terms.now) c.in-OfOtherHeader.is) (c.in_default.ensures.numbered c.args.terms.now)

pub eval::lists::entries::arguments_match-instances-requires : goal.eval::lists::entries::arguments_match-instances-requires
eval::lists::entries::arguments_match-instances-requires t c = c.in-Some.ensures.within c.args.terms.now c.requires.named

pub eval::lists::entries::arguments_match-returns-in_ok-given-in-OfOtherHeader-clause-says : goal.eval::lists::entries::arguments_match-returns-in_ok-given-in-OfOtherHeader-clause-says
eval::lists::entries::arguments_match-returns-in_ok-given-in-OfOtherHeader-clause-says t c = λ m s.
    other-named (level_in c.args.setting.now m c.args.depth) (named_at c.args.terms.now c.args.named.now) c.header_match-in-OfOtherHeader.new.terms
    (arguments_at c.args.terms.now c.args.arguments.now) c.in-OfOtherHeader.header.params.now (header_trees c.in-OfOtherHeader.header.terms) (trees_of c.in-OfOtherHeader.of.now)
    c.in-OfOtherHeader.number (ap (arguments_at c.args.terms.now) c.in-OfOtherHeader.is) (each_level_is_consistent (setting_in c.args.setting.now m) c.args.depth)
    (erased_all c.args.terms.now c.in-Some.args.now) (erased_all c.instances.new.terms c.deref-in-OfOtherHeader.result.now) c.header_match-in-OfOtherHeader.result
    (c.in-Some.ensures.numbered c.args.terms.now)
    (ap (erased_all c.instances.new.terms) c.deref-in-OfOtherHeader.ensures.value ∙ c.in_ok-given-in-OfOtherHeader.ensures.trees)
    (c.header_match-in-OfOtherHeader.ensures.says m s)

pub eval::lists::entries::arguments_match-returns-in_default-named_args-clause-says : goal.eval::lists::entries::arguments_match-returns-in_default-named_args-clause-says
eval::lists::entries::arguments_match-returns-in_default-named_args-clause-says t c = λ m s.
    followed-unnamed (level_in c.args.setting.now m c.args.depth) (named_at c.args.terms.now c.args.named.now) c.args.terms.now (arguments_at c.args.terms.now c.args.arguments.now)
    c.in-FollowedBy.number (erased_all c.args.terms.now c.in-FollowedBy.own.items) (ap (arguments_at c.args.terms.now) c.in-FollowedBy.is)
    (c.in_default-named_args.ensures.numbered c.args.terms.now)

pub eval::lists::entries::arguments_match-returns-in_ok-all-in-FollowedBy-clause-within : goal.eval::lists::entries::arguments_match-returns-in_ok-all-in-FollowedBy-clause-within
eval::lists::entries::arguments_match-returns-in_ok-all-in-FollowedBy-clause-within t c =
    followed-in c.args.terms.now c.in-Some-named_args.args.now c.deref-in-FollowedBy.result.now c.in_ok-all-in-FollowedBy.all.items c.in_ok-all-in-FollowedBy.ensures
    (c.in-Some-named_args.ensures.within c.args.terms.now c.requires.named)
    (subst (AreIn c.args.terms.now) (sym c.deref-in-FollowedBy.ensures.value) (subst (ArgumentsIn c.args.terms.now) c.in-FollowedBy.is c.requires.arguments))

pub eval::lists::entries::arguments_match-returns-in_ok-all-in-FollowedBy-clause-says : goal.eval::lists::entries::arguments_match-returns-in_ok-all-in-FollowedBy-clause-says
eval::lists::entries::arguments_match-returns-in_ok-all-in-FollowedBy-clause-says t c = λ m s.
    followed-named (level_in c.args.setting.now m c.args.depth) (named_at c.args.terms.now c.args.named.now) c.args.terms.now (arguments_at c.args.terms.now c.args.arguments.now)
    c.in-FollowedBy.number (erased_all c.args.terms.now c.in-FollowedBy.own.items) (ap (arguments_at c.args.terms.now) c.in-FollowedBy.is)
    (erased_all c.args.terms.now c.in-Some-named_args.args.now) c.in_ok-all-in-FollowedBy.all (c.in-Some-named_args.ensures.numbered c.args.terms.now)
    (ap (erased_all c.args.terms.now) c.in_ok-all-in-FollowedBy.ensures ∙ map-append (erased_at c.args.terms.now) c.in-Some-named_args.args.now c.deref-in-FollowedBy.result.now
    ∙ ap (λ xs. erased_all c.args.terms.now c.in-Some-named_args.args.now ++ erased_all c.args.terms.now xs) c.deref-in-FollowedBy.ensures.value)

pub eval::lists::entries::row_outcome-returns-in_default-clause-says : goal.eval::lists::entries::row_outcome-returns-in_default-clause-says
eval::lists::entries::row_outcome-returns-in_default-clause-says t c = λ m s.
    row-unnamed (level_in c.args.setting.now m c.args.depth) c.args.row (numbered_at c.args.terms.now (option_copied c.args.args))
    (ap (λ o. numbered_at c.args.terms.now (option_copied o)) c.in_default.is)

pub eval::lists::entries::row_outcome-returns-in-Clauses-clause-says : goal.eval::lists::entries::row_outcome-returns-in-Clauses-clause-says
eval::lists::entries::row_outcome-returns-in-Clauses-clause-says t c = λ m s.
    row-found (level_in c.args.setting.now m c.args.depth) c.args.row (numbered_at c.args.terms.now (option_copied c.args.args))
    (erased_all c.args.terms.now c.in-Some.args.now) (clauses_under (erased_all c.args.terms.now c.in-Some.args.now) c.in-Clauses.clauses.now) c.clauses_outcome.result
    (ap (λ o. numbered_at c.args.terms.now (option_copied o)) c.in-Some.is)
    (ap (λ w. premises_of w (erased_all c.args.terms.now c.in-Some.args.now)) (sym c.in-Clauses.is)) (c.clauses_outcome.ensures.says m s)

pub eval::lists::entries::row_outcome-returns-in_ok-conditions-in-Conditions-clause-says : goal.eval::lists::entries::row_outcome-returns-in_ok-conditions-in-Conditions-clause-says
eval::lists::entries::row_outcome-returns-in_ok-conditions-in-Conditions-clause-says t c = λ m s.
    row-found (level_in c.args.setting.now m c.args.depth) c.args.row (numbered_at c.args.terms.now (option_copied c.args.args))
    (erased_all c.args.terms.now c.in-Some.args.now) (conditions_as c.in-Conditions.constness (map (trait_at c.traits_under.new.terms) c.deref.result.now)) c.conditions_outcome.result
    (ap (λ o. numbered_at c.args.terms.now (option_copied o)) c.in-Some.is)
    (ap (λ rs. conditions_as c.in-Conditions.constness (map (trait_at c.traits_under.new.terms) rs)) c.deref.ensures.value
    ∙ ap (conditions_as c.in-Conditions.constness) c.in_ok-conditions-in-Conditions.ensures.traits
    ∙ ap (λ w. premises_of w (erased_all c.args.terms.now c.in-Some.args.now)) (sym c.in-Conditions.is)) (c.conditions_outcome.ensures.says m s)

pub eval::lists::entries::term_found-returns-in-AsItStands-clause-says : goal.eval::lists::entries::term_found-returns-in-AsItStands-clause-says
eval::lists::entries::term_found-returns-in-AsItStands-clause-says t c = λ m s.
    standing-found (level_in c.args.setting.now m c.args.depth) (named_at c.args.terms.now c.args.named.now) c.args.terms.now (term_at c.args.terms.now c.args.term.now)
    (erased_at c.args.terms.now c.in-AsItStands.id) c.in-AsItStands.id (ap (term_at c.args.terms.now) c.in-AsItStands.is) refl

pub eval::lists::entries::term_found-returns-in-HeadFormOf-clause-says : goal.eval::lists::entries::term_found-returns-in-HeadFormOf-clause-says
eval::lists::entries::term_found-returns-in-HeadFormOf-clause-says t c = λ m s.
    head_form-found (level_in c.args.setting.now m c.args.depth) (named_at c.args.terms.now c.args.named.now) c.head_form.new.terms (term_at c.args.terms.now c.args.term.now)
    (erased_at c.args.terms.now c.in-HeadFormOf.id) c.head_form.result (ap (term_at c.args.terms.now) c.in-HeadFormOf.is) (c.head_form.ensures.says m s)

pub eval::lists::entries::term_found-returns-in_default-clause-says : goal.eval::lists::entries::term_found-returns-in_default-clause-says
eval::lists::entries::term_found-returns-in_default-clause-says t c = λ m s.
    value-unnamed (level_in c.args.setting.now m c.args.depth) (named_at c.args.terms.now c.args.named.now) c.args.terms.now (term_at c.args.terms.now c.args.term.now)
    (value_tree c.in-ValueUnder.value) c.in-ValueUnder.number (ap (term_at c.args.terms.now) c.in-ValueUnder.is) (c.in_default.ensures.numbered c.args.terms.now)

pub eval::lists::entries::term_found-returns-in-Some-clause-says : goal.eval::lists::entries::term_found-returns-in-Some-clause-says
eval::lists::entries::term_found-returns-in-Some-clause-says t c = λ m s.
    value-found (level_in c.args.setting.now m c.args.depth) (named_at c.args.terms.now c.args.named.now) c.head_form_under.new.terms (term_at c.args.terms.now c.args.term.now)
    (value_tree c.in-ValueUnder.value) c.in-ValueUnder.number (ap (term_at c.args.terms.now) c.in-ValueUnder.is) (erased_all c.args.terms.now c.in-Some.args.now)
    (value_tree c.in-ValueUnder.value) c.head_form_under.result (c.in-Some.ensures.numbered c.args.terms.now) refl (c.head_form_under.ensures.says m s)

pub eval::lists::entries::term_found-returns-in_ok-outcome-in-ChosenBy-clause-says : goal.eval::lists::entries::term_found-returns-in_ok-outcome-in-ChosenBy-clause-says
eval::lists::entries::term_found-returns-in_ok-outcome-in-ChosenBy-clause-says t c = λ m s.
    let within = subst (TermIn c.args.terms.now) c.in-ChosenBy.is c.requires.term in
    chosen-found (level_in c.args.setting.now m c.args.depth) (named_at c.args.terms.now c.args.named.now) c.predicate_outcome.new.terms (term_at c.args.terms.now c.args.term.now)
    (predicate_at c.args.terms.now c.in-ChosenBy.predicate) (erased_at c.args.terms.now c.in-ChosenBy.first) (erased_at c.args.terms.now c.in-ChosenBy.second) c.in-ChosenBy.first
    c.in-ChosenBy.second c.in_ok-outcome-in-ChosenBy.outcome c.chosen.result (ap (term_at c.args.terms.now) c.in-ChosenBy.is)
    (same-grown c.args.terms.now c.predicate_outcome.new.terms c.predicate_outcome.ensures.kept c.in-ChosenBy.first within.1)
    (same-grown c.args.terms.now c.predicate_outcome.new.terms c.predicate_outcome.ensures.kept c.in-ChosenBy.second within.2)
    c.chosen.ensures (c.in_ok-outcome-in-ChosenBy.ensures.says m s)

pub assembly::candidates::listed_outcome-returns-clause-says : goal.assembly::candidates::listed_outcome-returns-clause-says
assembly::candidates::listed_outcome-returns-clause-says t c m s =
    subst (SaysListed (setting_in c.args.setting.now m) (level_in c.args.setting.now m c.args.depth) c.args.terms.now c.args.asked.now (candidate_at c.args.terms.now c.args.candidate.now))
    (sym c.held.ensures)
    (asked-says (setting_in c.args.setting.now m) (level_in c.args.setting.now m c.args.depth) c.args.terms.now c.run_list.new.terms c.args.asked.now
    (candidate_at c.args.terms.now c.args.candidate.now) c.in_ok-found.found
    (c.in_ok-found.ensures.says m s (candidate_list (setting_in c.args.setting.now m) c.args.terms.now c.args.asked.now (candidate_at c.args.terms.now c.args.candidate.now))
    (c.in_ok-list.ensures.list m s)))

pub assembly::candidates::consider_candidate-returns-in-Refuted-clause-says : goal.assembly::candidates::consider_candidate-returns-in-Refuted-clause-says
assembly::candidates::consider_candidate-returns-in-Refuted-clause-says t c m s =
    asked-out (setting_in c.args.setting.now m) (level_in c.args.setting.now m c.args.depth) c.args.terms.now c.args.asked.now (candidate_at c.args.terms.now c.args.candidate.now)
    c.in_ok-shown.shown c.in-Refuted.is (c.in_ok-shown.ensures.says m s)

pub assembly::candidates::consider_candidate-returns-clause-says : goal.assembly::candidates::consider_candidate-returns-clause-says
assembly::candidates::consider_candidate-returns-clause-says t c m s =
    asked-beside c.args.setting.now m c.args.depth c.args.terms.now c.listed_outcome.new.terms c.args.asked.now c.args.candidate.now c.in_ok-shown.shown c.in_ok-special.special c.beside.result
    c.in_ok-shown.ensures.kept c.requires.asked.1 c.requires.candidate c.beside.ensures (c.in_ok-shown.ensures.says m s) (c.in_ok-special.ensures.says m s)

pub assembly::specialized::impl_outcome-returns-clause-says : goal.assembly::specialized::impl_outcome-returns-clause-says
assembly::specialized::impl_outcome-returns-clause-says t c m s =
    impl-says (setting_in c.args.setting.now m) (level_in c.args.setting.now m c.args.depth) c.run_list.new.terms (erased_all c.args.terms.now c.args.args.now) c.args.row.now
    c.in_ok-found.found c.shows.result c.shows.ensures
    (c.in_ok-found.ensures.says m s (trait_list (setting_in c.args.setting.now m) c.args.row.now.trait_id (erased_all c.args.terms.now c.args.args.now) (by_impl c.args.row.now)) (c.in_ok-list.ensures.list m s))

pub assembly::specialized::more_special_outcome-returns-in-Impl-clause-says : goal.assembly::specialized::more_special_outcome-returns-in-Impl-clause-says
assembly::specialized::more_special_outcome-returns-in-Impl-clause-says t c m s =
    subst (λ x. IfOk c.impls_outcome.result (SaysMoreSpecial (setting_in c.args.setting.now m) (level_in c.args.setting.now m c.args.depth) (erased_all c.args.terms.now c.args.args.now) (candidate_at c.args.terms.now x)))
    (sym c.in-Impl.is) (c.impls_outcome.ensures.says m s)

pub assembly::specialized::more_special_outcome-returns-in_default-clause-says : goal.assembly::specialized::more_special_outcome-returns-in_default-clause-says
assembly::specialized::more_special_outcome-returns-in_default-clause-says t c m s =
    others-decide (setting_in c.args.setting.now m) (level_in c.args.setting.now m c.args.depth) (erased_all c.args.terms.now c.args.args.now) c.args.terms.now c.args.candidate.now c.in_default.not-Impl

pub assembly::specialized::impls_outcome-impl_outcome-requires : goal.assembly::specialized::impls_outcome-impl_outcome-requires
assembly::specialized::impls_outcome-impl_outcome-requires t c = (
  omega arith,
  (search (rules, caching), are_in-grown c.args.terms.now c.loop-i.terms c.loop-i.invariant.kept c.args.args.now c.requires.args),
)

pub assembly::specialized::impls_outcome-loop-i-init : goal.assembly::specialized::impls_outcome-loop-i-init
assembly::specialized::impls_outcome-loop-i-init t c = record {
  kept = keeps-refl c.args.terms.now;
  effects = search (rules, caching);
  so_far = impls-start c.args.setting.now c.args.depth c.args.terms.now c.args.args.now c.more_special-places.result.now;
}

pub assembly::specialized::impls_outcome-loop-i-preserved : goal.assembly::specialized::impls_outcome-loop-i-preserved
assembly::specialized::impls_outcome-loop-i-preserved t c = record {
  kept = keeps-chain c.args.terms.now c.loop-i.terms c.impl_outcome.new.terms c.loop-i.invariant.kept c.in_ok-next.ensures.kept;
  effects = search (rules, caching);
  so_far = impls-more c.args.setting.now c.args.depth c.args.terms.now c.loop-i.terms c.args.args.now c.more_special-places.result.now c.loop-i.i (get_or c.more_special-places.result.now c.loop-i.i 0) c.impl_at-other.result.now
      c.loop-i.found c.in_ok-next.next c.or-found.result c.loop-i.invariant.kept c.requires.args (omega arith) refl c.impl_at-other.ensures c.or-found.ensures
      c.loop-i.invariant.so_far c.in_ok-next.ensures.says;
}

pub assembly::specialized::impls_outcome-returns-in-Holds-clause-says : goal.assembly::specialized::impls_outcome-returns-in-Holds-clause-says
assembly::specialized::impls_outcome-returns-in-Holds-clause-says t c m s =
    impls-shown c.args.setting.now c.args.depth c.args.terms.now c.args.args.now c.args.row.now c.more_special-places.result.now (c.loop-i.i + 1) c.or-found.result c.in-Holds.is
    (impls-more c.args.setting.now c.args.depth c.args.terms.now c.loop-i.terms c.args.args.now c.more_special-places.result.now c.loop-i.i (get_or c.more_special-places.result.now c.loop-i.i 0) c.impl_at-other.result.now
    c.loop-i.found c.in_ok-next.next c.or-found.result c.loop-i.invariant.kept c.requires.args (omega arith) refl c.impl_at-other.ensures c.or-found.ensures
    c.loop-i.invariant.so_far c.in_ok-next.ensures.says) m s (c.more_special-places.ensures.listed c.args.row.now (c.requires.row s.1))

pub assembly::specialized::impls_outcome-returns-clause-says : goal.assembly::specialized::impls_outcome-returns-clause-says
assembly::specialized::impls_outcome-returns-clause-says t c m s =
    impls-end c.args.setting.now c.args.depth c.args.terms.now c.args.args.now c.args.row.now c.more_special-places.result.now c.loop-i.i c.loop-i.found (omega arith)
    c.loop-i.invariant.so_far m s (c.more_special-places.ensures.listed c.args.row.now (c.requires.row s.1))

pub assembly::candidates::candidates_outcome-loop-candidate-init : goal.assembly::candidates::candidates_outcome-loop-candidate-init
assembly::candidates::candidates_outcome-loop-candidate-init t c = record {
  kept = keeps-refl c.args.terms.now;
  effects = search (rules, caching);
  so_far = asked-start c.args.setting.now c.args.depth c.args.terms.now c.args.asked.now c.args.candidates.now;
}

pub assembly::candidates::candidates_outcome-consider_candidate-requires : goal.assembly::candidates::candidates_outcome-consider_candidate-requires
assembly::candidates::candidates_outcome-consider_candidate-requires t c = (
  omega arith,
  (
    search (rules, caching),
    ((
      asked_in-grown c.args.terms.now c.loop-candidate.terms c.args.asked.now c.loop-candidate.invariant.kept c.requires.asked,
      (
        candidate-in c.args.terms.now c.loop-candidate.terms c.args.candidates.now c.loop-candidate.candidate-index c.candidate-item.result c.loop-candidate.invariant.kept
            c.requires.candidates (omega arith) c.candidate-item.is,
        All-at (IsOfRows c.args.setting.now.rows.now) c.args.candidates.now c.loop-candidate.candidate-index c.candidate-item.result c.requires.rows (omega arith) c.candidate-item.is,
      ),
    )),
  ),
)

pub assembly::candidates::candidates_outcome-loop-candidate-preserved : goal.assembly::candidates::candidates_outcome-loop-candidate-preserved
assembly::candidates::candidates_outcome-loop-candidate-preserved t c = record {
  kept = keeps-chain c.args.terms.now c.loop-candidate.terms c.consider_candidate.new.terms c.loop-candidate.invariant.kept c.in_ok-next.ensures.kept;
  effects = search (rules, caching);
  so_far = asked-more c.args.setting.now c.args.depth c.args.terms.now c.loop-candidate.terms c.args.asked.now c.args.candidates.now c.loop-candidate.candidate-index c.candidate-item.result
      c.loop-candidate.found c.in_ok-next.next c.or-found.result c.loop-candidate.invariant.kept c.requires.asked c.requires.candidates (omega arith) c.candidate-item.is c.or-found.ensures
      c.loop-candidate.invariant.so_far c.in_ok-next.ensures.says;
}

pub assembly::candidates::candidates_outcome-returns-in-Holds-clause-says : goal.assembly::candidates::candidates_outcome-returns-in-Holds-clause-says
assembly::candidates::candidates_outcome-returns-in-Holds-clause-says t c =
    asked-shown c.args.setting.now c.args.depth c.args.terms.now c.args.asked.now c.args.candidates.now (c.loop-candidate.candidate-index + 1) c.or-found.result c.in-Holds.is
    (asked-more c.args.setting.now c.args.depth c.args.terms.now c.loop-candidate.terms c.args.asked.now c.args.candidates.now c.loop-candidate.candidate-index c.candidate-item.result
    c.loop-candidate.found c.in_ok-next.next c.or-found.result c.loop-candidate.invariant.kept c.requires.asked c.requires.candidates (omega arith) c.candidate-item.is c.or-found.ensures
    c.loop-candidate.invariant.so_far c.in_ok-next.ensures.says)

pub assembly::candidates::candidates_outcome-returns-clause-says : goal.assembly::candidates::candidates_outcome-returns-clause-says
assembly::candidates::candidates_outcome-returns-clause-says t c =
    asked-end c.args.setting.now c.args.depth c.args.terms.now c.args.asked.now c.args.candidates.now c.loop-candidate.candidate-index c.loop-candidate.found (omega arith)
    c.loop-candidate.invariant.so_far

pub assembly::candidates::class_outcome-returns-clause-says : goal.assembly::candidates::class_outcome-returns-clause-says
assembly::candidates::class_outcome-returns-clause-says t c m s =
    asked-listed (setting_in c.args.setting.now m) c.args.depth c.args.terms.now c.candidates_of_class.new.terms c.args.asked.now c.args.class
    (map (candidate_at c.candidates_of_class.new.terms) c.deref.result.now) (class_of (setting_in c.args.setting.now m) c.args.asked.now.trait_id (erased_at c.args.terms.now c.args.asked.now.self_ty) c.args.class)
    c.candidates_outcome.result c.in_ok-candidates.ensures.kept c.requires.asked
    (ap (map (candidate_at c.candidates_of_class.new.terms)) c.deref.ensures.value ∙ c.in_ok-candidates.ensures.candidates m) (c.candidates_outcome.ensures.says m s)

pub trait_goals::evaluation::evaluate_trait_goal-returns-then-depth-eq0-clause-says : goal.trait_goals::evaluation::evaluate_trait_goal-returns-then-depth-eq0-clause-says
trait_goals::evaluation::evaluate_trait_goal-returns-then-depth-eq0-clause-says t c m s = trait-ground (setting_in c.args.setting.now m) c.args.depth c.args.trait_id (erased_all c.args.terms.now c.args.args.now) c.if-depth-eq0.true

pub trait_goals::evaluation::fresh_trait_outcome-returns-in_default-clause-says : goal.trait_goals::evaluation::fresh_trait_outcome-returns-in_default-clause-says
trait_goals::evaluation::fresh_trait_outcome-returns-in_default-clause-says t c m s =
    trait-bare (setting_in c.args.setting.now m) c.args.depth c.args.trait_id (erased_all c.args.terms.now c.args.args.now) c.requires.above (ap (erased_all c.args.terms.now) c.in_default.ensures)

pub trait_goals::evaluation::fresh_trait_outcome-returns-in-Undecided-clause-says : goal.trait_goals::evaluation::fresh_trait_outcome-returns-in-Undecided-clause-says
trait_goals::evaluation::fresh_trait_outcome-returns-in-Undecided-clause-says t c m s =
    trait-unformed (setting_in c.args.setting.now m) c.args.depth c.args.trait_id (erased_at c.args.terms.now c.in-Some.first) (erased_all c.args.terms.now c.in-Some.rest.now)
    (erased_all c.args.terms.now c.args.args.now) c.requires.above (ap (erased_all c.args.terms.now) c.in-Some.ensures)
    (subst (SaysWhich (HasHeadForm (level_in c.args.setting.now m (c.args.depth - 1)) (erased_at c.args.terms.now c.in-Some.first)) (HeadFormRefuted (level_in c.args.setting.now m (c.args.depth - 1)) (erased_at c.args.terms.now c.in-Some.first)) c.head_form.new.terms)
    c.in-Undecided.is (c.in_ok-head_form.ensures.says m s))

pub trait_goals::evaluation::fresh_trait_outcome-returns-in-Refuted-clause-says : goal.trait_goals::evaluation::fresh_trait_outcome-returns-in-Refuted-clause-says
trait_goals::evaluation::fresh_trait_outcome-returns-in-Refuted-clause-says t c m s =
    trait-formless (setting_in c.args.setting.now m) c.args.depth c.args.trait_id (erased_at c.args.terms.now c.in-Some.first) (erased_all c.args.terms.now c.in-Some.rest.now)
    (erased_all c.args.terms.now c.args.args.now) c.requires.above (ap (erased_all c.args.terms.now) c.in-Some.ensures)
    (subst (SaysWhich (HasHeadForm (level_in c.args.setting.now m (c.args.depth - 1)) (erased_at c.args.terms.now c.in-Some.first)) (HeadFormRefuted (level_in c.args.setting.now m (c.args.depth - 1)) (erased_at c.args.terms.now c.in-Some.first)) c.head_form.new.terms)
    c.in-Refuted.is (c.in_ok-head_form.ensures.says m s))

pub trait_goals::evaluation::fresh_trait_outcome-returns-in_ok-replaced-in-Is-clause-says : goal.trait_goals::evaluation::fresh_trait_outcome-returns-in_ok-replaced-in-Is-clause-says
trait_goals::evaluation::fresh_trait_outcome-returns-in_ok-replaced-in-Is-clause-says t c m s =
    trait-formed (setting_in c.args.setting.now m) c.args.depth c.args.trait_id (erased_at c.args.terms.now c.in-Some.first) (erased_at c.head_form.new.terms c.in-Is.self_ty)
    (erased_all c.args.terms.now c.in-Some.rest.now) (erased_all c.args.terms.now c.args.args.now) c.decide_trait.result c.requires.above (ap (erased_all c.args.terms.now) c.in-Some.ensures)
    (subst (SaysWhich (HasHeadForm (level_in c.args.setting.now m (c.args.depth - 1)) (erased_at c.args.terms.now c.in-Some.first)) (HeadFormRefuted (level_in c.args.setting.now m (c.args.depth - 1)) (erased_at c.args.terms.now c.in-Some.first)) c.head_form.new.terms)
    c.in-Is.is (c.in_ok-head_form.ensures.says m s))
    (replaced-formed (setting_in c.args.setting.now m) (level_in c.args.setting.now m (c.args.depth - 1)) c.args.trait_id c.args.terms.now c.head_form.new.terms c.in-Is.self_ty c.in-Some.first
    c.in-Some.rest.now c.as_slice.result.now c.decide_trait.result c.head_form.ensures.kept (subst (AreIn c.args.terms.now) c.in-Some.ensures c.requires.args)
    (c.as_slice.ensures.value ∙ c.in_ok-replaced-in-Is.ensures) (c.decide_trait.ensures.says m s))

pub trait_goals::evaluation::decide_trait-returns-in-Some-clause-says : goal.trait_goals::evaluation::decide_trait-returns-in-Some-clause-says
trait_goals::evaluation::decide_trait-returns-in-Some-clause-says t c m s =
    environment-decides (setting_in c.args.setting.now m) c.args.depth c.args.asked.now.trait_id (erased_at c.args.terms.now c.args.asked.now.self_ty) (erased_all c.args.terms.now c.args.asked.now.args.now)
    c.in_ok-environment.environment c.in-Some.decided
    (plain-class (setting_in c.args.setting.now m) (level_in c.args.setting.now m c.args.depth) c.args.terms.now c.args.terms.now c.args.asked.now class.ParamEnv c.in_ok-environment.environment
    (keeps-refl c.args.terms.now) c.requires.asked c.requires.plain (c.in_ok-environment.ensures.says m s))
    (sym c.through.ensures ∙ c.in-Some.is)

pub trait_goals::evaluation::decide_trait-returns-in-Some-through-clause-says : goal.trait_goals::evaluation::decide_trait-returns-in-Some-through-clause-says
trait_goals::evaluation::decide_trait-returns-in-Some-through-clause-says t c m s =
    bounds-decide (setting_in c.args.setting.now m) c.args.depth c.args.asked.now.trait_id (erased_at c.args.terms.now c.args.asked.now.self_ty) (erased_all c.args.terms.now c.args.asked.now.args.now)
    c.in_ok-environment.environment c.in_ok-bounds.bounds c.in-Some-through.decided
    (undecided-refuted c.in_ok-environment.environment class.ParamEnv (λ d e. c.in_default.not-Some d (c.through.ensures ∙ e)))
    (plain-class (setting_in c.args.setting.now m) (level_in c.args.setting.now m c.args.depth) c.args.terms.now c.args.terms.now c.args.asked.now class.ParamEnv c.in_ok-environment.environment
    (keeps-refl c.args.terms.now) c.requires.asked c.requires.plain (c.in_ok-environment.ensures.says m s))
    (plain-class (setting_in c.args.setting.now m) (level_in c.args.setting.now m c.args.depth) c.args.terms.now c.class_outcome.new.terms c.args.asked.now class.AliasBound c.in_ok-bounds.bounds
    c.class_outcome.ensures.kept c.requires.asked c.requires.plain (c.in_ok-bounds.ensures.says m s))
    (sym c.through-2.ensures ∙ c.in-Some-through.is)

pub trait_goals::evaluation::decide_trait-returns-in-Some-through-2-clause-says : goal.trait_goals::evaluation::decide_trait-returns-in-Some-through-2-clause-says
trait_goals::evaluation::decide_trait-returns-in-Some-through-2-clause-says t c m s =
    rest-decides (setting_in c.args.setting.now m) c.args.depth c.args.asked.now.trait_id (erased_at c.args.terms.now c.args.asked.now.self_ty) (erased_all c.args.terms.now c.args.asked.now.args.now)
    c.in_ok-environment.environment c.in_ok-bounds.bounds c.in_ok-rest.rest c.in-Some-through-2.decided
    (undecided-refuted c.in_ok-environment.environment class.ParamEnv (λ d e. c.in_default.not-Some d (c.through.ensures ∙ e)))
    (undecided-refuted c.in_ok-bounds.bounds class.AliasBound (λ d e. c.in_default-through.not-Some d (c.through-2.ensures ∙ e)))
    (plain-class (setting_in c.args.setting.now m) (level_in c.args.setting.now m c.args.depth) c.args.terms.now c.args.terms.now c.args.asked.now class.ParamEnv c.in_ok-environment.environment
    (keeps-refl c.args.terms.now) c.requires.asked c.requires.plain (c.in_ok-environment.ensures.says m s))
    (plain-class (setting_in c.args.setting.now m) (level_in c.args.setting.now m c.args.depth) c.args.terms.now c.class_outcome.new.terms c.args.asked.now class.AliasBound c.in_ok-bounds.bounds
    c.class_outcome.ensures.kept c.requires.asked c.requires.plain (c.in_ok-bounds.ensures.says m s))
    (plain-class (setting_in c.args.setting.now m) (level_in c.args.setting.now m c.args.depth) c.args.terms.now c.class_outcome-2.new.terms c.args.asked.now class.Misc c.in_ok-rest.rest
    (keeps-chain c.args.terms.now c.class_outcome.new.terms c.class_outcome-2.new.terms c.class_outcome.ensures.kept c.class_outcome-2.ensures.kept) c.requires.asked c.requires.plain
    (c.in_ok-rest.ensures.says m s))
    (sym c.through-3.ensures ∙ c.in-Some-through-2.is)

pub trait_goals::evaluation::decide_trait-returns-in-None-clause-says : goal.trait_goals::evaluation::decide_trait-returns-in-None-clause-says
trait_goals::evaluation::decide_trait-returns-in-None-clause-says t c m s =
    none-decides (setting_in c.args.setting.now m) c.args.depth c.args.asked.now.trait_id (erased_at c.args.terms.now c.args.asked.now.self_ty) (erased_all c.args.terms.now c.args.asked.now.args.now)
    c.in_ok-environment.environment c.in_ok-bounds.bounds c.in_ok-rest.rest
    (undecided-refuted c.in_ok-environment.environment class.ParamEnv (λ d e. c.in_default.not-Some d (c.through.ensures ∙ e)))
    (undecided-refuted c.in_ok-bounds.bounds class.AliasBound (λ d e. c.in_default-through.not-Some d (c.through-2.ensures ∙ e)))
    (sym c.through-3.ensures ∙ c.in-None.is)
    (plain-class (setting_in c.args.setting.now m) (level_in c.args.setting.now m c.args.depth) c.args.terms.now c.args.terms.now c.args.asked.now class.ParamEnv c.in_ok-environment.environment
    (keeps-refl c.args.terms.now) c.requires.asked c.requires.plain (c.in_ok-environment.ensures.says m s))
    (plain-class (setting_in c.args.setting.now m) (level_in c.args.setting.now m c.args.depth) c.args.terms.now c.class_outcome.new.terms c.args.asked.now class.AliasBound c.in_ok-bounds.bounds
    c.class_outcome.ensures.kept c.requires.asked c.requires.plain (c.in_ok-bounds.ensures.says m s))
    (plain-class (setting_in c.args.setting.now m) (level_in c.args.setting.now m c.args.depth) c.args.terms.now c.class_outcome-2.new.terms c.args.asked.now class.Misc c.in_ok-rest.rest
    (keeps-chain c.args.terms.now c.class_outcome.new.terms c.class_outcome-2.new.terms c.class_outcome.ensures.kept c.class_outcome-2.ensures.kept) c.requires.asked c.requires.plain
    (c.in_ok-rest.ensures.says m s))

pub effect_goals::evaluation::evaluate_host_effect_goal-returns-then-depth-eq0-clause-says : goal.effect_goals::evaluation::evaluate_host_effect_goal-returns-then-depth-eq0-clause-says
effect_goals::evaluation::evaluate_host_effect_goal-returns-then-depth-eq0-clause-says t c m s =
    const-ground (setting_in c.args.setting.now m) c.args.depth c.args.const_goal.now.constness c.args.const_goal.now.trait_id (erased_all c.args.terms.now c.args.const_goal.now.args.now) c.if-depth-eq0.true

pub effect_goals::evaluation::fresh_host_effect_outcome-returns-in_default-clause-says : goal.effect_goals::evaluation::fresh_host_effect_outcome-returns-in_default-clause-says
effect_goals::evaluation::fresh_host_effect_outcome-returns-in_default-clause-says t c m s =
    const-no_self (setting_in c.args.setting.now m) c.args.depth c.args.const_goal.now.constness c.args.const_goal.now.trait_id c.args.terms.now c.args.const_goal.now.args.now c.in_default.ensures

pub effect_goals::evaluation::fresh_host_effect_outcome-returns-in_default-plain-clause-says : goal.effect_goals::evaluation::fresh_host_effect_outcome-returns-in_default-plain-clause-says
effect_goals::evaluation::fresh_host_effect_outcome-returns-in_default-plain-clause-says t c m s =
    subst (SaysHost (setting_in c.args.setting.now m) c.args.depth c.args.const_goal.now.constness c.args.const_goal.now.trait_id (erased_all c.args.terms.now c.args.const_goal.now.args.now)) (sym c.held.ensures)
    (plain-decides (setting_in c.args.setting.now m) c.args.depth c.args.const_goal.now.constness c.args.const_goal.now.trait_id c.args.terms.now c.in-Some.first c.in-Some.rest.now c.args.const_goal.now.args.now c.in_ok-plain.plain
    c.requires.above c.in-Some.ensures c.in_default-plain.not-Holds (c.in_ok-plain.ensures.says m s))

pub effect_goals::evaluation::fresh_host_effect_outcome-returns-in_default-found-clause-says : goal.effect_goals::evaluation::fresh_host_effect_outcome-returns-in_default-found-clause-says
effect_goals::evaluation::fresh_host_effect_outcome-returns-in_default-found-clause-says t c m s =
    host-unformed (setting_in c.args.setting.now m) c.args.depth c.args.const_goal.now.constness c.args.const_goal.now.trait_id c.in-Holds.class c.args.terms.now c.evaluate_trait_goal.new.terms c.in-Some.first
    c.in-Some.rest.now c.args.const_goal.now.args.now c.in_ok-plain.plain c.in_ok-plain.ensures.kept c.requires.args c.requires.above c.in-Some.ensures c.in-Holds.is (c.in_ok-plain.ensures.says m s)
    c.head_form.new.terms c.in_ok-found.found c.in_default-found.not-Is (c.in_ok-found.ensures.says m s)

pub effect_goals::evaluation::fresh_host_effect_outcome-groups_outcome-requires : goal.effect_goals::evaluation::fresh_host_effect_outcome-groups_outcome-requires
effect_goals::evaluation::fresh_host_effect_outcome-groups_outcome-requires t c = (
  omega arith,
  (
    search (rules, caching),
    (let form_in : IsIn c.head_form.new.terms c.in-Is.self_ty = subst (FoundIn c.head_form.new.terms) c.in-Is.is c.in_ok-found.ensures.within in
        let args_in : AreIn c.evaluate_trait_goal.new.terms (c.in-Some.first ∷ c.in-Some.rest.now) =
        are_in-grown c.args.terms.now c.evaluate_trait_goal.new.terms c.in_ok-plain.ensures.kept (c.in-Some.first ∷ c.in-Some.rest.now) (subst (AreIn c.args.terms.now) c.in-Some.ensures c.requires.args) in (
          form_in,
          replaced-in c.evaluate_trait_goal.new.terms c.head_form.new.terms c.in-Is.self_ty c.in-Some.first c.in-Some.rest.now c.as_slice.result.now c.in_ok-found.ensures.kept args_in form_in
              (c.as_slice.ensures.value ∙ c.in_ok-replaced.ensures),
        )),
  ),
)

pub effect_goals::evaluation::fresh_host_effect_outcome-returns-clause-says : goal.effect_goals::evaluation::fresh_host_effect_outcome-returns-clause-says
effect_goals::evaluation::fresh_host_effect_outcome-returns-clause-says t c m s =
    host-formed (setting_in c.args.setting.now m) c.args.depth c.args.const_goal.now.constness c.args.const_goal.now.trait_id c.in-Holds.class c.args.terms.now c.evaluate_trait_goal.new.terms c.in-Some.first
    c.in-Some.rest.now c.args.const_goal.now.args.now c.in_ok-plain.plain c.in_ok-plain.ensures.kept c.requires.args c.requires.above c.in-Some.ensures c.in-Holds.is (c.in_ok-plain.ensures.says m s)
    c.head_form.new.terms c.in-Is.self_ty c.as_slice.result c.in_ok-found.found c.groups_outcome.result c.in_ok-found.ensures.kept c.in-Is.is
    (c.as_slice.ensures.value ∙ c.in_ok-replaced.ensures) (c.in_ok-found.ensures.says m s) (c.groups_outcome.ensures.says m s)

pub effect_goals::evaluation::groups_outcome-candidates_outcome-requires : goal.effect_goals::evaluation::groups_outcome-candidates_outcome-requires
effect_goals::evaluation::groups_outcome-candidates_outcome-requires t c = (
  omega arith,
  (
    search (rules, caching),
    (
      asked_in-grown c.args.terms.now c.second_group.new.terms c.args.asked.now
          (keeps-chain c.args.terms.now c.class_outcome.new.terms c.second_group.new.terms c.class_outcome.ensures.kept c.second_group.ensures.kept) c.requires.asked,
      (
        subst (All (CandidateIn c.second_group.new.terms)) (sym c.deref.ensures.value) c.in_ok-candidates.ensures.within,
        second-rows (setting_of c.args.setting.now.rows.now mode.ErasedNotCoherence c.args.setting.now.environment.now) c.second_group.new.terms
            (trees_at c.class_outcome.new.terms c.args.asked.now.args.now) c.args.asked.now.trait_id (erased_at c.class_outcome.new.terms c.args.asked.now.self_ty) c.args.class c.deref.result.now
            (ap (map (candidate_at c.second_group.new.terms)) c.deref.ensures.value
            ∙ c.in_ok-candidates.ensures.candidates mode.ErasedNotCoherence c.args.setting.now.environment.now),
      ),
    ),
  ),
)

pub effect_goals::evaluation::groups_outcome-returns-in_default-clause-says : goal.effect_goals::evaluation::groups_outcome-returns-in_default-clause-says
effect_goals::evaluation::groups_outcome-returns-in_default-clause-says t c m s =
    groups-first (setting_in c.args.setting.now m) (level_in c.args.setting.now m c.args.depth) c.args.terms.now c.args.asked.now c.args.class c.in_ok-first.first c.in_default.not-Refuted
    (c.in_ok-first.ensures.says m s)

pub effect_goals::evaluation::groups_outcome-returns-clause-says : goal.effect_goals::evaluation::groups_outcome-returns-clause-says
effect_goals::evaluation::groups_outcome-returns-clause-says t c m s =
    groups-second (setting_in c.args.setting.now m) c.args.depth c.args.terms.now c.class_outcome.new.terms c.second_group.new.terms c.args.asked.now c.args.class c.in_ok-first.first
    (map (candidate_at c.second_group.new.terms) c.deref.result.now) c.candidates_outcome.result c.class_outcome.ensures.kept
    c.second_group.ensures.kept c.requires.asked c.in-Refuted.is
    (ap (map (candidate_at c.second_group.new.terms)) c.deref.ensures.value ∙ c.in_ok-candidates.ensures.candidates m c.args.setting.now.environment.now) (c.in_ok-first.ensures.says m s) (c.candidates_outcome.ensures.says m s)

pub normalizes_to::alias_terms::alias_term-returns-then-depth-eq0-clause-says : goal.normalizes_to::alias_terms::alias_term-returns-then-depth-eq0-clause-says
normalizes_to::alias_terms::alias_term-returns-then-depth-eq0-clause-says t c =
    λ m s. depth-zero (setting_in c.args.setting.now m) c.args.depth c.args.kind (erased_all c.args.terms.now c.args.args.now) c.if-depth-eq0.true

pub normalizes_to::alias_terms::fresh_alias_term-returns-in-ProjectionTy-clause-says : goal.normalizes_to::alias_terms::fresh_alias_term-returns-in-ProjectionTy-clause-says
normalizes_to::alias_terms::fresh_alias_term-returns-in-ProjectionTy-clause-says t c =
    λ m s. projection-above (setting_in c.args.setting.now m) c.args.depth (c.args.depth - 1) c.args.kind c.in-ProjectionTy.kind c.in-ProjectionTy.item (erased_all c.args.terms.now c.args.args.now)
    c.projection_term.new.terms c.projection_term.result (omega arith) c.in-ProjectionTy.is c.in-ProjectionTy.kind-is (c.projection_term.ensures.says m s)

pub normalizes_to::alias_terms::fresh_alias_term-returns-in_ok-outcome-in_default-clause-says : goal.normalizes_to::alias_terms::fresh_alias_term-returns-in_ok-outcome-in_default-clause-says
normalizes_to::alias_terms::fresh_alias_term-returns-in_ok-outcome-in_default-clause-says t c = λ m s.
    let args = erased_all c.args.terms.now c.args.args.now in
    alias-says (setting_in c.args.setting.now m) (c.args.depth - 1) c.args.depth (omega arith) c.args.kind (no_item c.args.kind c.in_default.not-ProjectionTy c.in_default.not-ProjectionConst)
    args c.run_list.new.terms c.in_ok-outcome-in_default.outcome c.term.result c.term.ensures
    (c.in_ok-outcome-in_default.ensures.says m s (Some (alias_list (setting_in c.args.setting.now m) c.args.kind args)) (c.in_ok-list-in_default.ensures.list m s))

pub normalizes_to::projection_candidates::candidate_term-returns-clause-says : goal.normalizes_to::projection_candidates::candidate_term-returns-clause-says
normalizes_to::projection_candidates::candidate_term-returns-clause-says t c = λ m s.
    let p = projection_at c.args.terms.now c.args.projection.now in
    let itself = erased_at c.args.terms.now c.args.projection.now.rigid_alias in
    let candidate = candidate_at c.args.terms.now c.args.candidate.now in
    candidate-says (setting_in c.args.setting.now m) c.args.depth p itself candidate c.run_list.new.terms c.in_ok-outcome.outcome c.term.result c.term.ensures
    (c.in_ok-outcome.ensures.says m s (projection_list (setting_in c.args.setting.now m) p itself candidate) (c.in_ok-list.ensures.list m s))

pub normalizes_to::projection_candidates::consider_term-returns-in-Refuted-clause-says : goal.normalizes_to::projection_candidates::consider_term-returns-in-Refuted-clause-says
normalizes_to::projection_candidates::consider_term-returns-in-Refuted-clause-says t c m s =
    given-none (setting_in c.args.setting.now m) c.args.depth c.args.terms.now c.candidate_term.new.terms c.args.projection.now c.args.candidate.now c.in_ok-found.found c.in-Refuted.is
    (c.in_ok-found.ensures.says m s)

pub normalizes_to::projection_candidates::consider_term-returns-clause-says : goal.normalizes_to::projection_candidates::consider_term-returns-clause-says
normalizes_to::projection_candidates::consider_term-returns-clause-says t c m s =
    given-beside (setting_in c.args.setting.now m) c.args.depth c.args.terms.now c.candidate_term.new.terms c.more_special_outcome.new.terms c.in_ok-found.ensures.kept c.in_ok-special.ensures.kept
    c.args.projection.now c.requires.projection c.args.candidate.now c.requires.candidate c.first_of-args.result.now c.first_of-args.ensures c.in_ok-found.found c.in_ok-found.ensures.within
    c.in_ok-special.special c.given_beside.result c.given_beside.ensures (c.in_ok-found.ensures.says m s) (c.in_ok-special.ensures.says m s)

pub eval::lists::run_entries-run_entry-requires : goal.eval::lists::run_entries-run_entry-requires
eval::lists::run_entries-run_entry-requires t c = (
  omega arith,
  (search (rules, caching), (c.loop-entry.invariant.within, (entry-in c.args.terms.now c.loop-entry.terms c.loop-entry.invariant.kept c.args.entries.now c.loop-entry.entry-index c.entry-item.result c.requires.entries (omega arith) c.entry-item.is, caused-at c.args.setting.now.rows.now c.args.entries.now c.loop-entry.entry-index c.entry-item.result c.requires.caused (omega arith) c.entry-item.is))),
)

pub eval::lists::entries::term_found-head_form_under-requires : goal.eval::lists::entries::term_found-head_form_under-requires
eval::lists::entries::term_found-head_form_under-requires t c = (
  omega arith,
  (search (rules, caching), c.in-Some.ensures.within c.args.terms.now c.requires.named),
)

pub assembly::candidates::class_outcome-candidates_outcome-requires : goal.assembly::candidates::class_outcome-candidates_outcome-requires
assembly::candidates::class_outcome-candidates_outcome-requires t c = (
  omega arith,
  (
    search (rules, caching),
    (
      (asked_in-grown c.args.terms.now c.candidates_of_class.new.terms c.args.asked.now c.in_ok-candidates.ensures.kept c.requires.asked),
      (
        subst (All (CandidateIn c.candidates_of_class.new.terms)) (sym c.deref.ensures.value) c.in_ok-candidates.ensures.within,
        class-rows (setting_of c.args.setting.now.rows.now mode.ErasedNotCoherence c.args.setting.now.environment.now) c.candidates_of_class.new.terms
            (erased_at c.args.terms.now c.args.asked.now.self_ty) (about_trait c.args.asked.now.trait_id (trees_at c.args.terms.now c.args.asked.now.args.now)) c.args.class c.deref.result.now (ap (map (candidate_at c.candidates_of_class.new.terms)) c.deref.ensures.value ∙ c.in_ok-candidates.ensures.candidates mode.ErasedNotCoherence),
      ),
    ),
  ),
)

pub trait_goals::evaluation::fresh_trait_outcome-decide_trait-requires : goal.trait_goals::evaluation::fresh_trait_outcome-decide_trait-requires
trait_goals::evaluation::fresh_trait_outcome-decide_trait-requires t c = (
  omega arith,
  (
    search (rules, caching),
    (
      ((
        subst (FoundIn c.head_form.new.terms) c.in-Is.is c.in_ok-head_form.ensures.within,
        replaced-in c.args.terms.now c.head_form.new.terms c.in-Is.self_ty c.in-Some.first c.in-Some.rest.now c.as_slice.result.now c.head_form.ensures.kept
            (subst (AreIn c.args.terms.now) c.in-Some.ensures c.requires.args) (subst (FoundIn c.head_form.new.terms) c.in-Is.is c.in_ok-head_form.ensures.within)
            (c.as_slice.ensures.value ∙ c.in_ok-replaced-in-Is.ensures),
      )),
      refl,
    ),
  ),
)

pub eval::lists::entries::run_entry-returns-in-Access-clause-effects : goal.eval::lists::entries::run_entry-returns-in-Access-clause-effects
eval::lists::entries::run_entry-returns-in-Access-clause-effects t c = c.reads_mode.ensures.effects c.args.terms.now c.requires.effects

pub eval::lists::entries::run_entry-returns-in_ok-meet_fault-in-DelayedFault-clause-effects : goal.eval::lists::entries::run_entry-returns-in_ok-meet_fault-in-DelayedFault-clause-effects
eval::lists::entries::run_entry-returns-in_ok-meet_fault-in-DelayedFault-clause-effects t c =
    sound-met c.args.setting.now c.args.terms.now c.args.effects.now c.meet_fault.new.self c.in-DelayedFault.fault
    (subst (IsCausedEntry c.args.setting.now.rows.now) c.in-DelayedFault.is c.requires.caused) c.meet_fault.ensures.listed c.meet_fault.ensures.accesses c.meet_fault.ensures.cache c.requires.effects

pub eval::lists::entries::run_entry-returns-in_err-meet_fault-in-DelayedFault-clause-effects : goal.eval::lists::entries::run_entry-returns-in_err-meet_fault-in-DelayedFault-clause-effects
eval::lists::entries::run_entry-returns-in_err-meet_fault-in-DelayedFault-clause-effects t c =
    sound-met c.args.setting.now c.args.terms.now c.args.effects.now c.meet_fault.new.self c.in-DelayedFault.fault
    (subst (IsCausedEntry c.args.setting.now.rows.now) c.in-DelayedFault.is c.requires.caused) c.meet_fault.ensures.listed c.meet_fault.ensures.accesses c.meet_fault.ensures.cache c.requires.effects

pub trait_goals::evaluation::evaluate_trait_goal-returns-in-Some-clause-says : goal.trait_goals::evaluation::evaluate_trait_goal-returns-in-Some-clause-says
trait_goals::evaluation::evaluate_trait_goal-returns-in-Some-clause-says t c m s =
    known-trait c.args.setting.now c.intern_trait_ref.new.terms c.args.effects.now.cache c.in_ok-goal.goal c.args.trait_id (length c.args.args.now) (erased_all c.args.terms.now c.args.args.now) c.args.depth c.in-Some.known
    (cache-grown c.args.setting.now c.args.terms.now c.intern_trait_ref.new.terms c.args.effects.now.cache c.intern_trait_ref.ensures.kept (sound-parts _ _ _ c.requires.effects).answers) c.in_ok-goal.ensures.tree
    (rw c.in-Some.is at c.in_ok-known.ensures.known) m s

pub trait_goals::evaluation::evaluate_trait_goal-returns-clause-effects : goal.trait_goals::evaluation::evaluate_trait_goal-returns-clause-effects
trait_goals::evaluation::evaluate_trait_goal-returns-clause-effects t c =
    let T = c.intern_trait_ref.new.terms in
    let U = c.fresh_trait_outcome.new.terms in
    let xs = erased_all c.args.terms.now c.args.args.now in
    let keeps : Keeps T U = c.fresh_trait_outcome.ensures.kept in sound-of _ _ _ (record {
      answers =
          keep-trait c.args.setting.now U c.end_goal.new.self.cache c.keep_trait.new.self c.in_ok-goal.goal c.args.trait_id (length c.args.args.now) xs c.args.depth c.in_ok-outcome.outcome
          (sound-parts _ _ _ (sound-aside _ _ _ _ c.end_goal.ensures.aside c.fresh_trait_outcome.ensures.effects)).answers (ap erased (keeps.same c.in_ok-goal.goal c.in_ok-goal.ensures.within) ∙ c.in_ok-goal.ensures.tree) (omega (arith, keeps.longer, c.in_ok-goal.ensures.within))
          (λ m s. subst (λ ys. SaysThrough (λ x. (level_in c.args.setting.now m c.args.depth).through x c.args.trait_id ys) ((level_in c.args.setting.now m c.args.depth).trait_refuted c.args.trait_id ys) c.in_ok-outcome.outcome)
          (all_same-grown c.args.terms.now T c.intern_trait_ref.ensures.kept c.args.args.now c.requires.args) (c.in_ok-outcome.ensures.says m s))
          c.keep_trait.ensures.entered c.keep_trait.ensures.unchanged;
      causes = (sound-parts _ _ _ (sound-aside _ _ _ _ c.end_goal.ensures.aside c.fresh_trait_outcome.ensures.effects)).causes;
      faults = (sound-parts _ _ _ (sound-aside _ _ _ _ c.end_goal.ensures.aside c.fresh_trait_outcome.ensures.effects)).faults;
    })

pub trait_goals::evaluation::evaluate_trait_goal-returns-clause-says : goal.trait_goals::evaluation::evaluate_trait_goal-returns-clause-says
trait_goals::evaluation::evaluate_trait_goal-returns-clause-says t c m s =
    subst (λ ys. SaysThrough (λ x. (level_in c.args.setting.now m c.args.depth).through x c.args.trait_id ys) ((level_in c.args.setting.now m c.args.depth).trait_refuted c.args.trait_id ys) c.in_ok-outcome.outcome)
    (all_same-grown c.args.terms.now c.intern_trait_ref.new.terms c.intern_trait_ref.ensures.kept c.args.args.now c.requires.args) (c.in_ok-outcome.ensures.says m s)

pub effect_goals::evaluation::evaluate_host_effect_goal-returns-in-Some-clause-says : goal.effect_goals::evaluation::evaluate_host_effect_goal-returns-in-Some-clause-says
effect_goals::evaluation::evaluate_host_effect_goal-returns-in-Some-clause-says t c m s =
    known-const c.args.setting.now c.intern_trait_ref.new.terms c.args.effects.now.cache c.in_ok-goal.goal c.args.const_goal.now.constness c.args.const_goal.now.trait_id (length c.args.const_goal.now.args.now) (erased_all c.args.terms.now c.args.const_goal.now.args.now) c.args.depth c.in-Some.known
    (cache-grown c.args.setting.now c.args.terms.now c.intern_trait_ref.new.terms c.args.effects.now.cache c.intern_trait_ref.ensures.kept (sound-parts _ _ _ c.requires.effects).answers) c.in_ok-goal.ensures.tree
    (rw c.in-Some.is at c.in_ok-known.ensures.known) m s

pub effect_goals::evaluation::evaluate_host_effect_goal-returns-clause-effects : goal.effect_goals::evaluation::evaluate_host_effect_goal-returns-clause-effects
effect_goals::evaluation::evaluate_host_effect_goal-returns-clause-effects t c =
    let T = c.intern_trait_ref.new.terms in
    let U = c.fresh_host_effect_outcome.new.terms in
    let xs = erased_all c.args.terms.now c.args.const_goal.now.args.now in
    let keeps : Keeps T U = c.fresh_host_effect_outcome.ensures.kept in sound-of _ _ _ (record {
      answers =
          keep-const c.args.setting.now U c.end_goal.new.self.cache c.keep_const.new.self c.in_ok-goal.goal c.args.const_goal.now.constness c.args.const_goal.now.trait_id (length c.args.const_goal.now.args.now) xs c.args.depth c.in_ok-outcome.outcome
          (sound-parts _ _ _ (sound-aside _ _ _ _ c.end_goal.ensures.aside c.fresh_host_effect_outcome.ensures.effects)).answers (ap erased (keeps.same c.in_ok-goal.goal c.in_ok-goal.ensures.within) ∙ c.in_ok-goal.ensures.tree) (omega (arith, keeps.longer, c.in_ok-goal.ensures.within))
          (λ m s. subst (λ ys. Says ((level_in c.args.setting.now m c.args.depth).const_holds c.args.const_goal.now.constness c.args.const_goal.now.trait_id ys) ((level_in c.args.setting.now m c.args.depth).const_refuted c.args.const_goal.now.constness c.args.const_goal.now.trait_id ys) c.in_ok-outcome.outcome)
          (all_same-grown c.args.terms.now T c.intern_trait_ref.ensures.kept c.args.const_goal.now.args.now c.requires.args) (c.in_ok-outcome.ensures.says m s))
          c.keep_const.ensures.entered c.keep_const.ensures.unchanged;
      causes = (sound-parts _ _ _ (sound-aside _ _ _ _ c.end_goal.ensures.aside c.fresh_host_effect_outcome.ensures.effects)).causes;
      faults = (sound-parts _ _ _ (sound-aside _ _ _ _ c.end_goal.ensures.aside c.fresh_host_effect_outcome.ensures.effects)).faults;
    })

pub effect_goals::evaluation::evaluate_host_effect_goal-returns-clause-says : goal.effect_goals::evaluation::evaluate_host_effect_goal-returns-clause-says
effect_goals::evaluation::evaluate_host_effect_goal-returns-clause-says t c m s =
    subst (λ ys. Says ((level_in c.args.setting.now m c.args.depth).const_holds c.args.const_goal.now.constness c.args.const_goal.now.trait_id ys) ((level_in c.args.setting.now m c.args.depth).const_refuted c.args.const_goal.now.constness c.args.const_goal.now.trait_id ys) c.in_ok-outcome.outcome)
    (all_same-grown c.args.terms.now c.intern_trait_ref.new.terms c.intern_trait_ref.ensures.kept c.args.const_goal.now.args.now c.requires.args) (c.in_ok-outcome.ensures.says m s)

pub normalizes_to::alias_terms::alias_term-returns-in-Some-clause-within : goal.normalizes_to::alias_terms::alias_term-returns-in-Some-clause-within
normalizes_to::alias_terms::alias_term-returns-in-Some-clause-within t c =
    known-within c.args.setting.now c.intern_alias.new.terms c.args.effects.now.cache c.in_ok-alias.alias c.args.depth c.in-Some.known
    (cache-grown c.args.setting.now c.args.terms.now c.intern_alias.new.terms c.args.effects.now.cache c.intern_alias.ensures.kept (sound-parts _ _ _ c.requires.effects).answers) (rw c.in-Some.is at c.in_ok-known.ensures.known)

pub normalizes_to::alias_terms::alias_term-returns-in-Some-clause-says : goal.normalizes_to::alias_terms::alias_term-returns-in-Some-clause-says
normalizes_to::alias_terms::alias_term-returns-in-Some-clause-says t c m s =
    known-alias c.args.setting.now c.intern_alias.new.terms c.args.effects.now.cache c.in_ok-alias.alias c.args.kind (erased_all c.args.terms.now c.args.args.now) c.args.depth c.in-Some.known
    (cache-grown c.args.setting.now c.args.terms.now c.intern_alias.new.terms c.args.effects.now.cache c.intern_alias.ensures.kept (sound-parts _ _ _ c.requires.effects).answers) c.in_ok-alias.ensures.tree
    (rw c.in-Some.is at c.in_ok-known.ensures.known) m s

pub normalizes_to::alias_terms::alias_term-returns-clause-effects : goal.normalizes_to::alias_terms::alias_term-returns-clause-effects
normalizes_to::alias_terms::alias_term-returns-clause-effects t c =
    let T = c.intern_alias.new.terms in
    let U = c.fresh_alias_term.new.terms in
    let xs = erased_all c.args.terms.now c.args.args.now in
    let keeps : Keeps T U = c.fresh_alias_term.ensures.kept in sound-of _ _ _ (record {
      answers =
          keep-alias c.args.setting.now U c.end_goal.new.self.cache c.keep_alias.new.self c.in_ok-alias.alias c.args.kind xs c.args.depth c.in_ok-found.found
          (sound-parts _ _ _ (sound-aside _ _ _ _ c.end_goal.ensures.aside c.fresh_alias_term.ensures.effects)).answers (ap erased (keeps.same c.in_ok-alias.alias (c.in_ok-alias.ensures.within).0) ∙ c.in_ok-alias.ensures.tree) (omega (arith, keeps.longer, (c.in_ok-alias.ensures.within).0)) c.in_ok-found.ensures.within
          (λ m s. subst (λ ys. SaysWhich ((level_in c.args.setting.now m c.args.depth).gives c.args.kind ys) ((level_in c.args.setting.now m c.args.depth).gives_refuted c.args.kind ys) U c.in_ok-found.found)
          (all_same-grown c.args.terms.now T c.intern_alias.ensures.kept c.args.args.now c.requires.args) (c.in_ok-found.ensures.says m s))
          c.keep_alias.ensures.entered c.keep_alias.ensures.unchanged;
      causes = (sound-parts _ _ _ (sound-aside _ _ _ _ c.end_goal.ensures.aside c.fresh_alias_term.ensures.effects)).causes;
      faults = (sound-parts _ _ _ (sound-aside _ _ _ _ c.end_goal.ensures.aside c.fresh_alias_term.ensures.effects)).faults;
    })

pub normalizes_to::alias_terms::alias_term-returns-clause-says : goal.normalizes_to::alias_terms::alias_term-returns-clause-says
normalizes_to::alias_terms::alias_term-returns-clause-says t c m s =
    subst (λ ys. SaysWhich ((level_in c.args.setting.now m c.args.depth).gives c.args.kind ys) ((level_in c.args.setting.now m c.args.depth).gives_refuted c.args.kind ys) c.fresh_alias_term.new.terms c.in_ok-found.found)
    (all_same-grown c.args.terms.now c.intern_alias.new.terms c.intern_alias.ensures.kept c.args.args.now c.requires.args) (c.in_ok-found.ensures.says m s)

pub normalizes_to::projections::item_term-evaluate_trait_goal-requires : goal.normalizes_to::projections::item_term-evaluate_trait_goal-requires
normalizes_to::projections::item_term-evaluate_trait_goal-requires t c = (
  omega (arith, c.decreases),
  (
    sound-aside _ _ _ _ c.leave_out_regions-lists.ensures.aside c.requires.effects,
    subst (AreIn c.args.terms.now) (sym c.first_of-trait_args.ensures) (All-take (IsIn c.args.terms.now) c.len-trait_params.result c.args.alias.now.args.now c.requires.args),
  ),
)

pub eval::lists::entries::term_found-returns-in-TypeChecked-clause-says : goal.eval::lists::entries::term_found-returns-in-TypeChecked-clause-says
eval::lists::entries::term_found-returns-in-TypeChecked-clause-says t c = λ m s.
    checked-found (level_in c.args.setting.now m c.args.depth) (named_at c.args.terms.now c.args.named.now) c.checked_type.new.terms (term_at c.args.terms.now c.args.term.now)
    c.in-HiddenType.field-0 (erased_all c.args.terms.now c.in-HiddenType.args.items) (tree_of_ty c.in-HiddenType.row.now.typeck_hidden) c.in-HiddenType.row.now.bounds.items c.checked_type.result
    (ap (term_at c.args.terms.now) c.in-HiddenType.is
    ∙ ap (λ f. hidden_type c.in-HiddenType.field-0 (erased_all c.args.terms.now c.in-HiddenType.args.items) f (tree_of_ty c.in-HiddenType.row.now.typeck_hidden) c.in-HiddenType.row.now.bounds.items) c.in-TypeChecked.is)
    (subst (λ ids. IfOk c.checked_type.result (SaysChecked (level_in c.args.setting.now m c.args.depth) (erased_all c.args.terms.now ids) c.in-HiddenType.row.now c.checked_type.new.terms))
    c.deref.ensures.value (c.checked_type.ensures.says m s))

pub eval::lists::entries::term_found-returns-in-Expected-clause-says : goal.eval::lists::entries::term_found-returns-in-Expected-clause-says
eval::lists::entries::term_found-returns-in-Expected-clause-says t c = λ m s.
    unknown-found (level_in c.args.setting.now m c.args.depth) (named_at c.args.terms.now c.args.named.now) c.args.terms.now (term_at c.args.terms.now c.args.term.now)
    c.in-HiddenType.field-0 (erased_all c.args.terms.now c.in-HiddenType.args.items) (tree_of_ty c.in-HiddenType.row.now.typeck_hidden) c.in-HiddenType.row.now.bounds.items
    (ap (term_at c.args.terms.now) c.in-HiddenType.is
    ∙ ap (λ f. hidden_type c.in-HiddenType.field-0 (erased_all c.args.terms.now c.in-HiddenType.args.items) f (tree_of_ty c.in-HiddenType.row.now.typeck_hidden) c.in-HiddenType.row.now.bounds.items) c.in-Expected.is)

pub normalizes_to::opaque_types::bounded_type-clauses_outcome-requires : goal.normalizes_to::opaque_types::bounded_type-clauses_outcome-requires
normalizes_to::opaque_types::bounded_type-clauses_outcome-requires t c = (
  omega arith,
  (
    search (rules, caching),
    behind-in c.args.terms.now c.value_under.new.terms c.value_under.ensures.kept c.args.args.now c.deref-2.result.now c.in_ok-hidden.hidden c.requires.args
        (c.deref-2.ensures.value ∙ c.in_ok-all.ensures) c.in_ok-hidden.ensures.within,
  ),
)

pub normalizes_to::opaque_types::bounded_type-returns-in-Refuted-clause-says : goal.normalizes_to::opaque_types::bounded_type-returns-in-Refuted-clause-says
normalizes_to::opaque_types::bounded_type-returns-in-Refuted-clause-says t c = λ m s forms.
    bounds-refuted (level_in c.args.setting.now m c.args.depth) (erased_all c.args.terms.now c.args.args.now) c.args.row.now c.clauses_outcome.new.terms forms
    (bounds-say (level_in c.args.setting.now m c.args.depth) c.args.terms.now c.value_under.new.terms c.value_under.ensures.kept c.args.args.now c.deref-2.result.now c.in_ok-hidden.hidden
    c.args.row.now c.deref.result.now outcome.Refuted c.requires.args (c.deref-2.ensures.value ∙ c.in_ok-all.ensures) c.in_ok-hidden.ensures.tree c.deref.ensures.value
    (subst (SaysPremises (level_in c.args.setting.now m c.args.depth) (clauses_under (erased_all c.value_under.new.terms c.deref-2.result.now) c.deref.result.now)) c.in-Refuted.is
    (c.in_ok-bounds.ensures.says m s)))

pub normalizes_to::opaque_types::bounded_type-returns : goal.normalizes_to::opaque_types::bounded_type-returns
normalizes_to::opaque_types::bounded_type-returns t c = record {
  effects = c.head_form.ensures.effects;
  kept = keeps-chain c.args.terms.now c.value_under.new.terms c.head_form.new.terms c.value_under.ensures.kept
      (keeps-chain c.value_under.new.terms c.clauses_outcome.new.terms c.head_form.new.terms c.clauses_outcome.ensures.kept c.head_form.ensures.kept);
  within = subst (FoundIn c.head_form.new.terms) (sym c.found_where.ensures) (found_where-in c.head_form.new.terms c.in_ok-bounds.bounds c.in_ok-found.found c.in_ok-found.ensures.within);
  stops = tt;
  says = λ m s forms.
      let L = level_in c.args.setting.now m c.args.depth in
      let args = erased_all c.args.terms.now c.args.args.now in
      subst (SaysChecked L args c.args.row.now c.head_form.new.terms) (sym c.found_where.ensures)
      (checked-says L (each_level_is_consistent (setting_in c.args.setting.now m) c.args.depth) args c.args.row.now c.head_form.new.terms c.in_ok-bounds.bounds c.in_ok-found.found forms
      (bounds-say L c.args.terms.now c.value_under.new.terms c.value_under.ensures.kept c.args.args.now c.deref-2.result.now c.in_ok-hidden.hidden c.args.row.now c.deref.result.now
      c.in_ok-bounds.bounds c.requires.args (c.deref-2.ensures.value ∙ c.in_ok-all.ensures) c.in_ok-hidden.ensures.tree c.deref.ensures.value (c.in_ok-bounds.ensures.says m s))
      (subst (λ u. SaysForm L u c.head_form.new.terms c.in_ok-found.found)
      (same-grown c.value_under.new.terms c.clauses_outcome.new.terms c.clauses_outcome.ensures.kept c.in_ok-hidden.hidden c.in_ok-hidden.ensures.within ∙ c.in_ok-hidden.ensures.tree)
      (c.in_ok-found.ensures.says m s)));
}

pub normalizes_to::opaque_types::checked_type-returns-in-Undecided-clause-says : goal.normalizes_to::opaque_types::checked_type-returns-in-Undecided-clause-says
normalizes_to::opaque_types::checked_type-returns-in-Undecided-clause-says t c = λ m s.
    let L = level_in c.args.setting.now m c.args.depth in
    let args = erased_all c.args.terms.now c.args.args.now in
    args-undecided L args c.args.row.now c.head_forms_outcome.new.terms (subst (Says (HaveForms L args) (SomeLacksForm L args)) c.in-Undecided.is (c.in_ok-head_forms_outcome.ensures.says m s))

pub normalizes_to::opaque_types::checked_type-returns-in-Refuted-clause-says : goal.normalizes_to::opaque_types::checked_type-returns-in-Refuted-clause-says
normalizes_to::opaque_types::checked_type-returns-in-Refuted-clause-says t c = λ m s.
    let L = level_in c.args.setting.now m c.args.depth in
    let args = erased_all c.args.terms.now c.args.args.now in
    args-unformed L args c.args.row.now c.head_forms_outcome.new.terms (subst (Says (HaveForms L args) (SomeLacksForm L args)) c.in-Refuted.is (c.in_ok-head_forms_outcome.ensures.says m s))

pub normalizes_to::opaque_types::checked_type-returns-in-Holds-clause-says : goal.normalizes_to::opaque_types::checked_type-returns-in-Holds-clause-says
normalizes_to::opaque_types::checked_type-returns-in-Holds-clause-says t c = λ m s.
    let L = level_in c.args.setting.now m c.args.depth in
    let args = erased_all c.args.terms.now c.args.args.now in
    subst (λ ts. HaveForms L ts → IfOk c.bounded_type.result (SaysChecked L ts c.args.row.now c.bounded_type.new.terms))
    (all_same-grown c.args.terms.now c.head_forms_outcome.new.terms c.head_forms_outcome.ensures.kept c.args.args.now c.requires.args) (c.bounded_type.ensures.says m s)
    (subst (Says (HaveForms L args) (SomeLacksForm L args)) c.in-Holds.is (c.in_ok-head_forms_outcome.ensures.says m s))
