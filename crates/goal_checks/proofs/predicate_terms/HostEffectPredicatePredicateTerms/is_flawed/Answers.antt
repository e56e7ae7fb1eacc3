use Rattle.std.proofs.Common.{ap, sym, ◌∙◌}
use Rattle.goal_terms.specs.NodeTests.{passes}
use Rattle.goal_tables.specs.Flaws.{flaw_lies_in_trait_ref}
use Rattle.goal_checks.proofs.FlawLemmas.{const_ref-flawed}
use Rattle.goal_checks.proofs.predicate_terms.HostEffectPredicatePredicateTerms.is_flawed.Goals as goal

pub returns : goal.returns
returns c =
    c.flaw_lies_in_trait_ref.ensures ∙
    ap (λ t. flaw_lies_in_trait_ref t (passes c.args.test) c.args.self.now.trait_ref) c.of.ensures ∙
    sym (const_ref-flawed c.args.rows.now (passes c.args.test) c.args.self.now.trait_ref)
