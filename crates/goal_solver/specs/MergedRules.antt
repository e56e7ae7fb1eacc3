-- Rules run one after the other, and what those of them that aren't refused make of a goal together.
use Rattle.std.specs.Prelude.{◌≡◌, ◌⊎◌, ℕ, List, [], ◌∷◌, ◌++◌, map, Option, Some, None}
use Rattle.std.specs.List.{All}
use Rattle.goal_terms.specs.Tree.{Tree}
use Rattle.goal_terms.specs.TreeOf.{tree_of_term, tree_of_ty, tree_of_arg}
use Rattle.goal_terms.specs.declared.answers.OpaqueTypeKey.{OpaqueTypeKey}
use Rattle.goal_terms.specs.declared.answers.Response.{Response}
use Rattle.goal_terms.specs.declared.ids.OpaqueId.{OpaqueId}
use Rattle.goal_terms.specs.declared.predicates.Clause.{Clause}
use Rattle.goal_terms.specs.declared.terms.Term.{Term}
use Rattle.goal_terms.specs.declared.terms.Ty.{Ty}
use Rattle.goal_lists.specs.Words.{Exists}
use Rattle.goal_lists.specs.declared.outcomes.Outcome.{Outcome}
use Rattle.goal_kinds.specs.declared.rules.Rule.{Rule}
use Rattle.goal_kinds.specs.declared.rules.RuleEntry.{RuleEntry}
use Rattle.goal_solver.specs.MoreSpecial.{RunsAlone, AsksMoreSpecial, matched_impl, answer_beside}
use Rattle.goal_solver.specs.State.{State}
use Rattle.goal_solver.specs.declared.assembly.merged_rules.Merged.{Merged}
use Rattle.goal_solver.specs.declared.assembly.merged_rules.Merged.TheVariants as merged

-- what a rule that has run answers beside the impls that are more special than its own
abbrev pub IsBeside : List Clause → List RuleEntry → State → Option Response → Option Response → State → Type 0
IsBeside env es s None a u = (a ≡ None) × (u ≡ s)
IsBeside env es s (Some r) a u = (o : Outcome) × AsksMoreSpecial env (matched_impl es) s o u × (a ≡ answer_beside o r)

-- a rule is run, and answers so: there is no response where it is refused, or where a more special impl holds
unfoldable pub RunsTo : List Clause → Rule → State → Option Response → State → Type 0
RunsTo env q s a u = (z : State) × (b : Option Response) × RunsAlone env q.entries.items s b z × IsBeside env q.entries.items z b a u

-- responses behind that of a rule, if it isn't refused
abbrev pub with_answer : Option Response → List Response → List Response
with_answer None rs = rs
with_answer (Some r) rs = r ∷ rs

-- rules are run in order, and these are the responses of those that aren't refused
unfoldable pub RunsEach : List Clause → List Rule → State → List Response → State → Type 0
RunsEach env [] s rs u = (u ≡ s) × (rs ≡ [])
RunsEach env (q ∷ qs) s rs u = (z : State) × (a : Option Response) × (others : List Response) × RunsTo env q s a z × RunsEach env qs z others u × (rs ≡ with_answer a others)

-- a listed value and a listed entry, as trees
abbrev pub value_tree : ℕ × Term → ℕ × Tree
value_tree p = (p.0, tree_of_term p.1)

abbrev pub entry_tree : OpaqueTypeKey × Ty → (OpaqueId × List Tree) × Tree
entry_tree e = ((e.0.def_id, map tree_of_arg e.0.args.items), tree_of_ty e.1)

-- two responses say the same, lifetimes too
pub record AreSame (r q : Response) : Type 0 where
  pub certainty : r.certainty ≡ q.certainty
  pub base : r.base ≡ q.base
  pub vars : r.vars.items ≡ q.vars.items
  pub values : map value_tree r.var_values.items ≡ map value_tree q.var_values.items
  pub equations : r.region_equations.items ≡ q.region_equations.items
  pub entries : map entry_tree r.opaque_entries.items ≡ map entry_tree q.opaque_entries.items

-- a response that says another thing than a first one
abbrev pub IsOther : Response → Response → Type 0
IsOther r q = AreSame r q → ⊥

-- what responses are merged to: nothing without any, the first one where all say the same, and no answer where one says another thing
unfoldable pub MergesTo : List Response → Merged → Type 0
MergesTo [] m = m ≡ merged.Refuted
MergesTo (r ∷ rs) m = (All (AreSame r) rs × (m ≡ merged.Answered r)) ⊎ (Exists (IsOther r) rs × (m ≡ merged.Split))

-- one more response, if there is one, is merged with those before it
abbrev pub JoinsTo : Option Response → Merged → Merged → Type 0
JoinsTo a m n = (rs : List Response) → MergesTo rs m → MergesTo (rs ++ with_answer a []) n

-- rules are run, and merged
abbrev pub MergesRules : List Clause → List Rule → State → Merged → State → Type 0
MergesRules env qs s m u = (rs : List Response) × RunsEach env qs s rs u × MergesTo rs m

-- a claim about the response in what rules are merged to
abbrev pub IfAnswered : Merged → (Response → Type 0) → Type 0
IfAnswered merged.Refuted P = Unit {0}
IfAnswered (merged.Answered r) P = P r
IfAnswered merged.Split P = Unit {0}
