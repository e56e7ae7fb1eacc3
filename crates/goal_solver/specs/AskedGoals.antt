-- Goals of each kind that are answered by their candidates, and how these are merged.
use Rattle.std.specs.Prelude.{◌≡◌, false, List, Option, Some, None, Result}
use Rattle.goal_terms.specs.declared.answers.Response.{Response}
use Rattle.goal_terms.specs.declared.answers.TraitGoalProvenVia.{TraitGoalProvenVia}
use Rattle.goal_terms.specs.declared.modes.TypingMode.{TypingMode}
use Rattle.goal_terms.specs.declared.predicates.Clause.{Clause}
use Rattle.goal_terms.specs.declared.predicates.Goal.{Goal}
use Rattle.goal_terms.specs.declared.predicates.NormalizesTo.{NormalizesTo}
use Rattle.goal_terms.specs.declared.terms.AliasTerm.{AliasTerm}
use Rattle.goal_terms.specs.declared.terms.Term.{Term}
use Rattle.goal_tables.specs.declared.rows.Tables.{Tables}
use Rattle.goal_kinds.specs.declared.faults.Fault.{Fault}
use Rattle.goal_kinds.specs.declared.assembly.group_rules.GroupRules.{GroupRules}
use Rattle.goal_kinds.specs.Collecting.{CollectsFor, Kind, has_kind_fault, rules_of_class, trait_kind, goal_in, CollectsFirst, CollectsLater}
use Rattle.goal_solver.specs.GoingBack.{restored}
use Rattle.goal_solver.specs.OpenAnswers.{MergesOpened}
use Rattle.goal_solver.specs.OpenGoals.{AreOfClass, AsksOpenSelf, ByClasses, ByFormedClasses, FormedBy, IsSelfAlias, PassesSelf, TakesSelf, WhenAnswered, trait_classes}
use Rattle.goal_solver.specs.OpenHostGoals.{ByFormedRuleGroups, ByRuleGroups, host_kind, rules_of_groups}
use Rattle.goal_solver.specs.OpenProjections.{ByFormedGroups, ByGroupsOf, alias_kind}
use Rattle.goal_solver.specs.State.{State}
use Rattle.goal_solver.specs.declared.assembly.asked_goals.AskedGoal.{AskedGoal}
use Rattle.goal_solver.specs.declared.assembly.asked_goals.AskedGoal.TheVariants as asked
use Rattle.goal_solver.specs.declared.assembly.formed_rules.FormedRules.{FormedRules}
use Rattle.goal_solver.specs.declared.assembly.formed_rules.FormedRules.TheVariants as formed
use Rattle.goal_solver.specs.declared.assembly.formed_rules.Merging.{Merging}
use Rattle.goal_solver.specs.declared.assembly.formed_rules.Merging.TheVariants as merging

-- how the candidates of a goal are merged
pub data MergedAs : Type 0 where
  -- class by class
  by_classes : MergedAs
  -- by the groups behind the class through which the plain goal holds
  by_groups : TraitGoalProvenVia → MergedAs
  -- by those, where they give the term of a projection
  by_terms : TraitGoalProvenVia → NormalizesTo → MergedAs

-- so it is said in the code
abbrev pub merged_as : Merging → MergedAs
merged_as merging.Classes = by_classes
merged_as (merging.Groups c) = by_groups c
merged_as (merging.Projection c p) = by_terms c p.now

-- by its candidates a goal is answered for the head form of its self type
abbrev pub formed_by : {P : Type 0} → MergedAs → Kind P → Goal P → FormedBy
formed_by by_classes K g = ByFormedClasses K g
formed_by (by_groups c) K g = ByFormedRuleGroups K c g
formed_by (by_terms c p) K g = ByFormedGroups K p c g

-- some rules are those of the groups of a goal's candidates, under its environment
abbrev pub AreGroupsFor : {P : Type 0} → Kind P → Tables → TypingMode → TraitGoalProvenVia → Goal P → GroupRules → Type 0
AreGroupsFor K t m c h w =
    (w.param_env.items ≡ h.param_env.items)
    × CollectsFirst K (goal_in t h m) w.environment.items
    × CollectsLater K (goal_in t h m) c w.later.items

-- some are those that a goal's candidates are merged by
abbrev pub AreRulesFor : {P : Type 0} → Kind P → Tables → TypingMode → MergedAs → Goal P → FormedRules → Type 0
AreRulesFor K t m by_classes h (formed.Classes w) =
    (w.param_env.items ≡ h.param_env.items) × ((c : TraitGoalProvenVia) → CollectsFor K (goal_in t h m) c (rules_of_class w c))
AreRulesFor K t m (by_groups c) h (formed.Groups w) = AreGroupsFor K t m c h w
AreRulesFor K t m (by_terms c p) h (formed.Projection d q w) = (d ≡ c) × (q.now ≡ p) × AreGroupsFor K t m c h w
AreRulesFor K t m b h w = ⊥

-- what they make of a goal
abbrev pub DecidesBy : FormedRules → State → Result Response Fault → State → Type 0
DecidesBy (formed.Classes w) s r u = ByClasses (AreOfClass s.typing_mode w) w.param_env.items trait_classes s r u
DecidesBy (formed.Groups w) s r u = ByRuleGroups w.param_env.items (rules_of_groups w) s r u
DecidesBy (formed.Projection c p w) s r u = ByGroupsOf c w p.now s r u

-- the rules of a goal's candidates for the head form of its self type
pub record RulesForSelf {P : Type 0} (K : Kind P) (t : Tables) (m : TypingMode) (b : MergedAs) (g : Goal P) (a : Option Term) (w : FormedRules) : Type 0 where
  pub considered : Goal P
  pub takes : TakesSelf K.words.is_with_self g considered a
  pub accepted : has_kind_fault K.has_fault t considered ≡ false
  pub collected : AreRulesFor K t m b considered w

-- there are none where no goal is considered
abbrev pub RulesForForm : {P : Type 0} → Kind P → Tables → TypingMode → MergedAs → Goal P → Option Term → Option FormedRules → Type 0
RulesForForm K t m b g a None = PassesSelf K.words.is_with_self (has_kind_fault K.has_fault t) g a
RulesForForm K t m b g a (Some w) = RulesForSelf K t m b g a w

-- the environment of a goal of one of the kinds
abbrev pub asked_environment : AskedGoal → List Clause
asked_environment (asked.Trait g) = g.now.param_env.items
asked_environment (asked.HostEffect c g) = g.now.param_env.items
asked_environment (asked.Projection c g) = g.now.param_env.items

-- its self type is an alias with inference variables
abbrev pub AsksOpen : AskedGoal → State → Type 0
AsksOpen (asked.Trait g) s = AsksOpenSelf trait_kind.words.self_type g.now s
AsksOpen (asked.HostEffect c g) s = AsksOpenSelf host_kind.words.self_type g.now s
AsksOpen (asked.Projection c g) s = AsksOpenSelf alias_kind.words.self_type g.now s

-- it is this alias
abbrev pub IsAskedAlias : AskedGoal → State → AliasTerm → Type 0
IsAskedAlias (asked.Trait g) s a = IsSelfAlias trait_kind.words.self_type g.now s a
IsAskedAlias (asked.HostEffect c g) s a = IsSelfAlias host_kind.words.self_type g.now s a
IsAskedAlias (asked.Projection c g) s a = IsSelfAlias alias_kind.words.self_type g.now s a

-- by its candidates it is answered for the head form of its self type
abbrev pub formed_as : AskedGoal → FormedBy
formed_as (asked.Trait g) = formed_by by_classes trait_kind g.now
formed_as (asked.HostEffect c g) = formed_by (by_groups c) host_kind g.now
formed_as (asked.Projection c g) = formed_by (by_terms c g.now.predicate) alias_kind g.now

-- these are their rules
abbrev pub RulesForAsked : Tables → TypingMode → AskedGoal → Option Term → Option FormedRules → Type 0
RulesForAsked t m (asked.Trait g) a o = RulesForForm trait_kind t m by_classes g.now a o
RulesForAsked t m (asked.HostEffect c g) a o = RulesForForm host_kind t m (by_groups c) g.now a o
RulesForAsked t m (asked.Projection c g) a o = RulesForForm alias_kind t m (by_terms c g.now.predicate) g.now a o

-- the goal is answered in a trial, by the head form of the alias
abbrev pub MergesAsked : AskedGoal → State → Result Response Fault → State → Type 0
MergesAsked (asked.Trait g) s r u = MergesOpened trait_kind.words.self_type (formed_by by_classes trait_kind g.now) g.now s r u
MergesAsked (asked.HostEffect c g) s r u = MergesOpened host_kind.words.self_type (formed_by (by_groups c) host_kind g.now) g.now s r u
MergesAsked (asked.Projection c g) s r u = MergesOpened alias_kind.words.self_type (formed_by (by_terms c g.now.predicate) alias_kind g.now) g.now s r u

-- it is so where such an alias is the self type, but for terms and records
abbrev pub OpensAsked : AskedGoal → State → Result Response Fault → State → Type 0
OpensAsked q s r u = AsksOpen q s → (z : State) × (z ≡ restored s z) × WhenAnswered r (MergesAsked q z r u)
