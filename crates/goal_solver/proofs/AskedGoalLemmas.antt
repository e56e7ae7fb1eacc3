-- Goals of each kind that are answered by their candidates, and the rules of these.
use Rattle.std.proofs.Common.{◌≡◌, Option, Some, None, Result, Ok, Err, inl, inr, refl, subst}
use Rattle.goal_terms.specs.declared.answers.Response.{Response}
use Rattle.goal_terms.specs.declared.predicates.Goal.{Goal}
use Rattle.goal_terms.specs.declared.predicates.NormalizesTo.{NormalizesTo}
use Rattle.goal_terms.specs.declared.terms.AliasTerm.{AliasTerm}
use Rattle.goal_terms.specs.declared.terms.Term.{Term}
use Rattle.goal_kinds.specs.declared.faults.Fault.{Fault}
use Rattle.goal_kinds.specs.Collecting.{Kind, has_kind_fault, trait_kind}
use Rattle.goal_solver.specs.AskedGoals.{DecidesBy, IsAskedAlias, MergedAs, MergesAsked, RulesForAsked, RulesForForm, RulesForSelf, asked_environment, by_classes, by_groups, by_terms, formed_as, formed_by}
use Rattle.goal_solver.specs.GoingBack.{begun, restored}
use Rattle.goal_solver.specs.OpenAnswers.{InTrial}
use Rattle.goal_solver.specs.OpenGoals.{AnswersBeside, IsAfterTrial, PassesSelf, WhenAnswered, WhenTried}
use Rattle.goal_solver.specs.OpenHostGoals.{host_kind}
use Rattle.goal_solver.specs.OpenProjections.{ByGroupsOf, alias_kind}
use Rattle.goal_solver.specs.State.{State}
use Rattle.goal_solver.specs.declared.assembly.asked_goals.AskedGoal.{AskedGoal}
use Rattle.goal_solver.specs.declared.assembly.asked_goals.AskedGoal.TheVariants as asked
use Rattle.goal_solver.specs.declared.assembly.formed_rules.FormedRules.{FormedRules}
use Rattle.goal_solver.specs.declared.assembly.formed_rules.FormedRules.TheVariants as formed
use Rattle.goal_solver.proofs.OpenedSelfLemmas.{opened-merges}

-- a goal is answered by the rules of its candidates
by-rules : {P : Type 0} (b : MergedAs) (K : Kind P) (g : Goal P) (z : State) (a : Option Term) (w : FormedRules) (q : Result Response Fault) (y : State) (r : Result (Option Response) Fault) (u : State) →
    RulesForSelf K z.tables z.typing_mode b g a w → DecidesBy w z q y → AnswersBeside y q r u → formed_by b K g (Ok a) z r u
by-rules by_classes K g z a (formed.Classes w) q y r u h d n =
    inr (w, q, y, record { considered = h.considered; takes = h.takes; accepted = h.accepted; environment = h.collected.0; collected = h.collected.1 }, d, n)
by-rules by_classes K g z a (formed.Groups w) q y r u h d n = absurd h.collected
by-rules by_classes K g z a (formed.Projection k v w) q y r u h d n = absurd h.collected
by-rules (by_groups c) K g z a (formed.Classes w) q y r u h d n = absurd h.collected
by-rules (by_groups c) K g z a (formed.Groups w) q y r u h d n =
    inr (w, q, y, record { considered = h.considered; takes = h.takes; accepted = h.accepted; environment = h.collected.0; first = h.collected.1; later = h.collected.2 }, d, n)
by-rules (by_groups c) K g z a (formed.Projection k v w) q y r u h d n = absurd h.collected
by-rules (by_terms c p) K g z a (formed.Classes w) q y r u h d n = absurd h.collected
by-rules (by_terms c p) K g z a (formed.Groups w) q y r u h d n = absurd h.collected
by-rules (by_terms c p) K g z a (formed.Projection k v w) q y r u h d n =
    inr (
      w,
      q,
      y,
      record { considered = h.considered; takes = h.takes; accepted = h.accepted; environment = h.collected.2.0; first = h.collected.2.1; later = h.collected.2.2 },
      subst (λ x. ByGroupsOf x w p z q y) h.collected.0 (subst (λ (x : NormalizesTo). ByGroupsOf k w x z q y) h.collected.1 d),
      n,
    )

-- they are made for a head form, by what a context shows
pub formed-shown : {P : Type 0} (b : MergedAs) (K : Kind P) (g : Goal P) (x z : State) (a : Option Term) (o : Option FormedRules) (w : FormedRules) (q : Result Response Fault) (y : State) (r : Result (Option Response) Fault) (u : State) → x ≡ z → o ≡ Some w →
    RulesForForm K x.tables x.typing_mode b g a o → DecidesBy w z q y → AnswersBeside y q r u → formed_by b K g (Ok a) z r u
formed-shown b K g x z a o w q y r u e is h d n =
    by-rules b K g z a w q y r u
    (subst (λ (s : State). RulesForSelf K s.tables s.typing_mode b g a w) e (subst (λ p. RulesForForm K x.tables x.typing_mode b g a p) is h)) d n

-- or there are none
none-passed : {P : Type 0} (b : MergedAs) (K : Kind P) (g : Goal P) (z : State) (a : Option Term) → PassesSelf K.words.is_with_self (has_kind_fault K.has_fault z.tables) g a → formed_by b K g (Ok a) z (Ok None) z
none-passed by_classes K g z a h = inl (h, refl, refl)
none-passed (by_groups c) K g z a h = inl (h, refl, refl)
none-passed (by_terms c p) K g z a h = inl (h, refl, refl)

pub formed-passed : {P : Type 0} (b : MergedAs) (K : Kind P) (g : Goal P) (x z : State) (a : Option Term) (o : Option FormedRules) → x ≡ z → o ≡ None → RulesForForm K x.tables x.typing_mode b g a o →
    formed_by b K g (Ok a) z (Ok None) z
formed-passed b K g x z a o e is h =
    none-passed b K g z a
    (subst (λ (s : State). PassesSelf K.words.is_with_self (has_kind_fault K.has_fault s.tables) g a) e (subst (λ p. RulesForForm K x.tables x.typing_mode b g a p) is h))

-- or the head form is refused
pub formed-refused : {P : Type 0} (b : MergedAs) (K : Kind P) (g : Goal P) (f : Fault) (z : State) → formed_by b K g (Err f) z (Err f) z
formed-refused by_classes K g f z = (refl, refl)
formed-refused (by_groups c) K g f z = (refl, refl)
formed-refused (by_terms c p) K g f z = (refl, refl)

-- the same of a goal of one of the kinds
pub asked-shown : (k : AskedGoal) (x z : State) (a : Option Term) (o : Option FormedRules) (w : FormedRules) (q : Result Response Fault) (y : State) (r : Result (Option Response) Fault) (u : State) → x ≡ z → o ≡ Some w →
    RulesForAsked x.tables x.typing_mode k a o → DecidesBy w z q y → AnswersBeside y q r u → formed_as k (Ok a) z r u
asked-shown (asked.Trait g) x z a o w q y r u e is h d n = formed-shown by_classes trait_kind g.now x z a o w q y r u e is h d n
asked-shown (asked.HostEffect c g) x z a o w q y r u e is h d n = formed-shown (by_groups c) host_kind g.now x z a o w q y r u e is h d n
asked-shown (asked.Projection c g) x z a o w q y r u e is h d n = formed-shown (by_terms c g.now.predicate) alias_kind g.now x z a o w q y r u e is h d n

pub asked-passed : (k : AskedGoal) (x z : State) (a : Option Term) (o : Option FormedRules) → x ≡ z → o ≡ None → RulesForAsked x.tables x.typing_mode k a o → formed_as k (Ok a) z (Ok None) z
asked-passed (asked.Trait g) x z a o e is h = formed-passed by_classes trait_kind g.now x z a o e is h
asked-passed (asked.HostEffect c g) x z a o e is h = formed-passed (by_groups c) host_kind g.now x z a o e is h
asked-passed (asked.Projection c g) x z a o e is h = formed-passed (by_terms c g.now.predicate) alias_kind g.now x z a o e is h

pub asked-refused : (k : AskedGoal) (f : Fault) (z : State) → formed_as k (Err f) z (Err f) z
asked-refused (asked.Trait g) f z = formed-refused by_classes trait_kind g.now f z
asked-refused (asked.HostEffect c g) f z = formed-refused (by_groups c) host_kind g.now f z
asked-refused (asked.Projection c g) f z = formed-refused (by_terms c g.now.predicate) alias_kind g.now f z

-- it is merged after a trial
pub asked-merges : (k : AskedGoal) (l : AliasTerm) (s b d u : State) (q : Result (Option Response) Fault) (r : Result Response Fault) → b ≡ begun s → u ≡ restored s d →
    IsAskedAlias k s l → WhenTried q (InTrial (formed_as k) (asked_environment k) l b q d) → IsAfterTrial q r → WhenAnswered r (MergesAsked k s r u)
asked-merges (asked.Trait g) l s b d u q r began undone self tried after =
    opened-merges trait_kind.words.self_type (formed_by by_classes trait_kind g.now) g.now l s b d u q r began undone self tried after
asked-merges (asked.HostEffect c g) l s b d u q r began undone self tried after =
    opened-merges host_kind.words.self_type (formed_by (by_groups c) host_kind g.now) g.now l s b d u q r began undone self tried after
asked-merges (asked.Projection c g) l s b d u q r began undone self tried after =
    opened-merges alias_kind.words.self_type (formed_by (by_terms c g.now.predicate) alias_kind g.now) g.now l s b d u q r began undone self tried after
