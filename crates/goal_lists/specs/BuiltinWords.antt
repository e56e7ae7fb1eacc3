-- Words on what the built-in rules give over a table of terms.
use Rattle.std.specs.Prelude.{◌≡◌, List, map, Option, Result, Vec, IfOk}
use Rattle.std.specs.Global.{Global}
use Rattle.std.specs.Option.{option_map, option_and_then}
use Rattle.goal_terms.specs.Tree.{Tree, parts_of}
use Rattle.goal_terms.specs.TreeOf.{tree_of_ty, tree_of_sig}
use Rattle.goal_terms.specs.declared.ids.ClosureId.{ClosureId}
use Rattle.goal_terms.specs.declared.ids.FnId.{FnId}
use Rattle.goal_interner.specs.declared.term_nodes.TermId.{TermId}
use Rattle.goal_tables.specs.Rows.{function_of, closure_of}
use Rattle.goal_terms.specs.declared.lang.LangItem.{LangItem}
use Rattle.goal_terms.specs.declared.lang.LangItem.TheVariants as lang
use Rattle.goal_tables.specs.declared.rows.AdtRow.{AdtRow}
use Rattle.goal_tables.specs.declared.rows.FieldInfo.{FieldInfo}
use Rattle.goal_tables.specs.declared.rows.FnRow.{FnRow}
use Rattle.goal_tables.specs.declared.rows.Tables.{Tables}
use Rattle.goal_tables.specs.declared.rows.TraitRow.{TraitRow}
use Rattle.goal_lists.specs.Builtins.{Listed, callable_sig, signature_of, field_of, output_rule}
use Rattle.goal_lists.specs.ConstRules.{const_function, const_closure, destruct_adt}
use Rattle.goal_lists.specs.Headers.{under}
use Rattle.goal_lists.specs.Interned.{erased_at, erased_all, premise_at, const_rule_at}
use Rattle.goal_lists.specs.Premises.{Premise, ConstRule, clauses_under, traits_under}
use Rattle.goal_lists.specs.declared.candidates.interned.InternedConstRule.{InternedConstRule}
use Rattle.goal_lists.specs.declared.candidates.interned.InternedPremise.{InternedPremise}

-- the parts of the term of a number, without lifetimes
abbrev pub parts_at : List Tree → TermId → List Tree
parts_at T id = parts_of (erased_at T id)

-- some premises
abbrev pub premises_at : List Tree → List InternedPremise → List Premise
premises_at T ps = map (premise_at T) ps

-- premises are those that a table tells
abbrev pub ArePremises : List Tree → List Premise → Vec InternedPremise Global → Type 0
ArePremises T told = λ ps. premises_at T ps.items ≡ told

-- what a built-in rule asks for, if there is a rule
abbrev pub rule_at : List Tree → Option (Vec InternedPremise Global) → Option (List Premise)
rule_at T o = option_map (λ ps. premises_at T ps.items) o

-- the types of some numbers, if there are any
abbrev pub types_at : List Tree → Option (Vec TermId Global) → Option (List Tree)
types_at T o = option_map (λ ids. erased_all T ids.items) o

-- unless memory is wanting, a function gives a rule for const traits, or none
abbrev pub GivesConstRule : {E : Type 0} → List Tree → Result (Option InternedConstRule) E → Option ConstRule → Type 0
GivesConstRule T result r = IfOk result (λ o. option_map (const_rule_at T) o ≡ r)

-- the rule for calls of a const function item, by its row
abbrev pub const_function_rule : Tables → FnId → List Tree → List Tree → Option ConstRule
const_function_rule t i ts args = option_and_then (const_function t ts args) (function_of t i)

-- the rule for calls of a const closure, by its row
abbrev pub const_closure_rule : Tables → LangItem → ClosureId → List Tree → List Tree → Option ConstRule
const_closure_rule t l i ts args = option_and_then (const_closure t l ts args) (closure_of t i)

-- what a trait alias asks for to hold as a const trait
abbrev pub alias_const_rule : List Tree → TraitRow → ConstRule
alias_const_rule args r = record { premises = clauses_under args r.predicates.items; conditions = traits_under args r.const_conditions.items }

-- what an ADT's destruction asks, by its row
abbrev pub destruct_row : List Tree → AdtRow → ConstRule
destruct_row ts = λ r. destruct_adt ts (traits_under ts r.destruct_conditions.items)

-- a function item's signature, if its functions have the traits `Fn`
abbrev pub function_sig : List Tree → FnRow → Option Tree
function_sig ts = λ r. callable_sig (under ts (tree_of_sig r.sig))

-- an ADT's discriminant type
abbrev pub discriminant_under : List Tree → AdtRow → Tree
discriminant_under ts = λ r. under ts (tree_of_ty r.discriminant)

-- what a call of a type gives for arguments, by its signature
abbrev pub call_output : Tables → List Tree → Tree → Listed
call_output t args self = output_rule t args (signature_of t lang.FnOnce self)

-- what is said by the field information of a field representing type, if it has some
abbrev pub said_of_field : Tables → (List Tree → FieldInfo → Tree) → Tree → Option Tree
said_of_field t g self = option_and_then (λ p. option_map (g p.0) p.1.field_info) (field_of t self)
