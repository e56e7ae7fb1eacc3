use Rattle.std.proofs.Common.{rules, Some, map, ap, subst, ◌∙◌}
use Rattle.std.specs.Prelude.{IfOk, slice_get}
use Rattle.goal_terms.specs.Folding.{instance}
use Rattle.goal_terms.specs.TreeOf.{trees_of}
use Rattle.goal_tables.specs.Rows.{impl_of}
use Rattle.goal_tables.specs.declared.rows.Tables.{Tables}
use Rattle.goal_lists.specs.declared.lists.RuleHeader.TheVariants as header
use Rattle.goal_solver.specs.OpenRuns.{named_trees, open_header, other_header, MatchesIf}
use Rattle.goal_solver.proofs.GoingBackLemmas.{goes_back-same}
use Rattle.goal_solver.proofs.OpenStepLemmas.{match-ungiven, number-named, number-unnamed, other-given, other-unnamed}
use Rattle.goal_solver.proofs.context.EvalCtxt.args_of_matched.Goals as goal

pub returns-in_default-clause-goes_back : goal.returns-in_default-clause-goes_back
returns-in_default-clause-goes_back c = goes_back-same c.args.self.now

pub returns-in_default-args_of_number-clause-names : goal.returns-in_default-args_of_number-clause-names
returns-in_default-args_of_number-clause-names c =
    match-ungiven c.args.environment.now (open_header c.args.self.now.tables (header.Impl c.args.other))
    (other_header (impl_of c.args.self.now.tables c.args.of) (slice_get (named_trees c.args.named.now) c.args.number)) c.args.self.now _ _
    (other-unnamed (impl_of c.args.self.now.tables c.args.of) (slice_get (named_trees c.args.named.now) c.args.number) (number-unnamed c.args.named.now c.args.number c.in_default-args_of_number.ensures))
    (search rules) (search rules)

pub returns-in_default-args_of_number-clause-goes_back : goal.returns-in_default-args_of_number-clause-goes_back
returns-in_default-args_of_number-clause-goes_back c = goes_back-same c.args.self.now

pub returns-in_default-instantiate_args-clause-goes_back : goal.returns-in_default-instantiate_args-clause-goes_back
returns-in_default-instantiate_args-clause-goes_back c = goes_back-same c.args.self.now

pub returns-clause-names : goal.returns-clause-names
returns-clause-names c =
    subst
    (λ g. IfOk c.args_of_impl.result
    (λ n. MatchesIf c.args.environment.now (open_header c.args.self.now.tables (header.Impl c.args.other)) g c.args.self.now (trees_of n.args.items) n.certainty c.args_of_impl.new.self))
    (ap (λ xs. Some (trees_of xs)) c.deref-3.ensures.value
    ∙ ap (λ ts. Some ts)
    (c.in-Ok.ensures ∙ ap (λ xs. map (instance (trees_of xs)) (trees_of c.deref.result.now)) c.deref-2.ensures.value
    ∙ ap (λ hs. map (instance (trees_of c.in-Some-args_of_number.args.now.items)) (trees_of hs)) c.deref.ensures.value)
    ∙ other-given c.in-Some.row.now (impl_of c.args.self.now.tables c.args.of) (trees_of c.in-Some-args_of_number.args.now.items) (slice_get (named_trees c.args.named.now) c.args.number)
    (c.in-Some.ensures ∙ ap (λ (t : Tables). impl_of t c.args.of) (c.rows.ensures.rows ∙ c.tables-tables.ensures))
    (number-named c.args.named.now c.args.number c.in-Some-args_of_number.args.now c.in-Some-args_of_number.ensures))
    c.args_of_impl.ensures.names
