-- The built-in rules for const traits, each as premises and const conditions. A type that no rule names has none.
use Rattle.std.specs.Prelude.{List, [], ◌∷◌, map, Option, Some, None, if◌then◌else◌}
use Rattle.std.specs.Option.{option_map, option_and_then}
use Rattle.goal_terms.specs.Tree.{Tree, node, alias, variable, list_of}
use Rattle.goal_terms.specs.TreeOf.{tree_of_sig}
use Rattle.goal_terms.specs.declared.heads.Head.{Head}
use Rattle.goal_terms.specs.declared.heads.Head.TheVariants as head
use Rattle.goal_terms.specs.declared.ids.TraitId.{TraitId}
use Rattle.goal_tables.specs.Rows.{trait_of, adt_of, function_of, closure_of, lang_trait_of}
use Rattle.goal_terms.specs.declared.lang.LangItem.{LangItem}
use Rattle.goal_terms.specs.declared.lang.LangItem.TheVariants as lang
use Rattle.goal_tables.specs.declared.rows.ClosureRow.{ClosureRow}
use Rattle.goal_tables.specs.declared.rows.FnRow.{FnRow}
use Rattle.goal_tables.specs.declared.rows.TraitRow.{TraitRow}
use Rattle.goal_tables.specs.declared.rows.Tables.{Tables}
use Rattle.goal_lists.specs.Builtins.{lang_of_trait, copied_parts, upvars_of, callable_sig, closure_sig, output_of, call_premises}
use Rattle.goal_lists.specs.Headers.{under}
use Rattle.goal_lists.specs.Premises.{TraitTree, ConstRule, clauses_under, traits_under}

-- that each of some types has a trait as a const trait
abbrev pub each_const : TraitId → List Tree → ConstRule
each_const i tys = record { premises = []; conditions = map (λ ty. record { def_id = i; args = ty ∷ [] }) tys }

-- a call by a signature whose const conditions hold
abbrev pub const_call : Tables → List Tree → List TraitTree → Tree → Option ConstRule
const_call t args conditions sig =
    option_and_then (λ output. option_map (λ sized. record { premises = call_premises sized sig args output; conditions = conditions }) (lang_trait_of t lang.Sized)) (output_of sig)

-- a const function item, and a const closure
abbrev pub const_function : Tables → List Tree → List Tree → FnRow → Option ConstRule
const_function t ts args r =
    if r.is_const then option_and_then (const_call t args (traits_under ts r.const_conditions.items)) (callable_sig (under ts (tree_of_sig r.sig))) else None

abbrev pub const_closure : Tables → LangItem → List Tree → List Tree → ClosureRow → Option ConstRule
const_closure t l ts args r =
    if r.is_const then option_and_then (const_call t args (traits_under ts r.const_conditions.items)) (closure_sig l ts r) else None

-- `Fn`, `FnMut` and `FnOnce`; pointers to functions are never const
unfoldable pub const_call_of_head : Tables → LangItem → Head → List Tree → List Tree → Option ConstRule
const_call_of_head t l (head.FnDef f n) ts args = option_and_then (const_function t ts args) (function_of t f)
const_call_of_head t l (head.Closure c n) ts args = option_and_then (const_closure t l ts args) (closure_of t c)
const_call_of_head t l _ ts args = None

abbrev pub const_call_rule : Tables → LangItem → Tree → List Tree → Option ConstRule
const_call_rule t l (node h ts) args = const_call_of_head t l h (list_of ts) args
const_call_rule t l (alias k ts) args = None
const_call_rule t l (variable v) args = None

-- the first of a type's parts
abbrev pub first_part : List Tree → List Tree
first_part [] = []
first_part (t ∷ ts) = t ∷ []

-- what an ADT's destruction asks
abbrev pub destruct_adt : List Tree → List TraitTree → ConstRule
destruct_adt ts conditions = record { premises = []; conditions = conditions }

-- `Destruct`: what a type holds must be so, too
unfoldable pub destruct_of_head : Tables → TraitId → Head → List Tree → Option ConstRule
destruct_of_head t i (head.Dynamic n r) ts = None
destruct_of_head t i (head.Foreign f) ts = None
destruct_of_head t i (head.TyParam n) ts = None
destruct_of_head t i (head.TyPlaceholder n) ts = None
destruct_of_head t i (head.Tuple n) ts = Some (each_const i ts)
destruct_of_head t i head.Array ts = Some (each_const i (first_part ts))
destruct_of_head t i head.Slice ts = Some (each_const i (first_part ts))
destruct_of_head t i (head.Closure c n) ts = option_map (λ r. each_const i (upvars_of ts r)) (closure_of t c)
destruct_of_head t i (head.Adt a n) ts = option_map (λ r. destruct_adt ts (traits_under ts r.destruct_conditions.items)) (adt_of t a)
destruct_of_head t i _ ts = Some (each_const i [])

abbrev pub destruct_rule : Tables → TraitId → Tree → Option ConstRule
destruct_rule t i (node h ts) = destruct_of_head t i h (list_of ts)
destruct_rule t i (alias k ts) = None
destruct_rule t i (variable v) = Some (each_const i [])

-- the rule of a lang trait that may be const
unfoldable pub lang_const_rule : Tables → TraitId → LangItem → Tree → List Tree → Option ConstRule
lang_const_rule t i lang.Copy self args = option_map (each_const i) (copied_parts t self)
lang_const_rule t i lang.Clone self args = option_map (each_const i) (copied_parts t self)
lang_const_rule t i lang.Fn self args = const_call_rule t lang.Fn self args
lang_const_rule t i lang.FnMut self args = const_call_rule t lang.FnMut self args
lang_const_rule t i lang.FnOnce self args = const_call_rule t lang.FnOnce self args
lang_const_rule t i lang.Destruct self args = destruct_rule t i self
lang_const_rule t i _ self args = None

-- the rule of a trait alias, or of a lang trait; other traits have none
abbrev pub alias_or_lang_const_rule : Tables → TraitId → Tree → List Tree → Option TraitRow → Option ConstRule
alias_or_lang_const_rule t i self args None = None
alias_or_lang_const_rule t i self args (Some r) =
    if r.is_alias
    then Some (record { premises = clauses_under (self ∷ args) r.predicates.items; conditions = traits_under (self ∷ args) r.const_conditions.items })
    else option_and_then (λ l. lang_const_rule t i l self args) (lang_of_trait t i)

unfoldable pub const_rule : Tables → TraitId → List Tree → Option ConstRule
const_rule t i [] = None
const_rule t i (self ∷ args) = alias_or_lang_const_rule t i self args (trait_of t i)
