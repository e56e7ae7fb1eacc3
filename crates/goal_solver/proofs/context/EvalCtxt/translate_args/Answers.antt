use Rattle.std.proofs.Common.{rules, ◌≡◌, false}
use Rattle.std.specs.Prelude.{◌==◌}
use Rattle.goal_solver.proofs.GoingBackLemmas.{goes_back-same}
use Rattle.goal_solver.proofs.TranslatedAnswers.{taken-other}
use Rattle.goal_solver.proofs.context.EvalCtxt.translate_args.Goals as goal

pub returns-in_err-args-in-Trait-clause-goes_back : goal.returns-in_err-args-in-Trait-clause-goes_back
returns-in_err-args-in-Trait-clause-goes_back c = goes_back-same c.args.self.now

pub returns-in_err-args-in-Impl-clause-goes_back : goal.returns-in_err-args-in-Impl-clause-goes_back
returns-in_err-args-in-Impl-clause-goes_back c = goes_back-same c.args.self.now

pub returns-then-id-impl_id-clause-goes_back : goal.returns-then-id-impl_id-clause-goes_back
returns-then-id-impl_id-clause-goes_back c = goes_back-same c.args.self.now

pub returns-in_ok-args-in-Trait-clause-goes_back : goal.returns-in_ok-args-in-Trait-clause-goes_back
returns-in_ok-args-in-Trait-clause-goes_back c = goes_back-same c.args.self.now

pub returns-else-id-impl_id-clause-other : goal.returns-else-id-impl_id-clause-other
returns-else-id-impl_id-clause-other c = λ q taken.
    let other : (c.in-Impl.id.0 == c.args.impl_id.0) ≡ false = search rules in
    let at = taken-other c.args.self.now c.args.impl_id c.in-Impl.id c.args.container q c.in-Impl.is other taken in
    record {
      closed = λ closed. record {
        sound = λ m owed. c.args_of_other.ensures.sound q at m owed closed;
        decided = λ m owed. c.args_of_other.ensures.decided q at m owed closed;
        fresh = λ m owed. c.args_of_other.ensures.fresh q at m owed closed;
        binds_nothing = c.args_of_other.ensures.binds_nothing q at closed;
      };
      variables = λ opened. record {
        made_equal = c.args_of_other.ensures.made_equal q at opened;
        equal = λ m owed. c.args_of_other.ensures.equal q at m owed opened;
        never = c.args_of_other.ensures.never q at opened;
      };
      added = c.args_of_other.ensures.added q at;
    }
