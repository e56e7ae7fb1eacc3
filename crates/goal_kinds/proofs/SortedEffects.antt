-- The lists of the candidates for host effect goals equate aliases with types and constants alone.
use Rattle.std.proofs.Common.{Bool, true, false, List, [], ◌∷◌, ◌++◌, Option, Some, None, if◌then◌else◌}
use Rattle.std.specs.Prelude.{◌&&◌, IfSome}
use Rattle.std.specs.Option.{option_map, option_and_then}
use Rattle.goal_terms.specs.PredicateTrees.{PredicateTree, holds, equals, holds_const}
use Rattle.goal_terms.specs.Tree.{Tree, node, alias, variable, list_of}
use Rattle.goal_terms.specs.declared.answers.GoalSource.{GoalSource}
use Rattle.goal_terms.specs.declared.heads.Head.{Head}
use Rattle.goal_terms.specs.declared.heads.Head.TheVariants as head
use Rattle.goal_terms.specs.declared.ids.TraitId.{TraitId}
use Rattle.goal_terms.specs.declared.predicates.BoundConstness.{BoundConstness}
use Rattle.goal_terms.specs.declared.predicates.Clause.{Clause}
use Rattle.goal_interner.specs.declared.term_nodes.TermId.{TermId}
use Rattle.goal_tables.specs.Rows.{trait_of, adt_of, function_of, closure_of, lang_trait_of}
use Rattle.goal_terms.specs.declared.lang.LangItem.{LangItem}
use Rattle.goal_terms.specs.declared.lang.LangItem.TheVariants as lang
use Rattle.goal_tables.specs.declared.rows.ImplRow.{ImplRow}
use Rattle.goal_tables.specs.declared.rows.Tables.{Tables}
use Rattle.goal_tables.specs.declared.rows.TraitRow.{TraitRow}
use Rattle.goal_lists.specs.Builtins.{lang_of_trait, copied_parts, output_of}
use Rattle.goal_lists.specs.Candidates.{Candidate, assumption, implied_bound, by_impl, built_in, error}
use Rattle.goal_lists.specs.ConstGoals.{satisfies}
use Rattle.goal_lists.specs.ConstRules.{each_const, const_call, const_call_of_head, const_call_rule, destruct_of_head, destruct_rule, lang_const_rule, alias_or_lang_const_rule, const_rule}
use Rattle.goal_lists.specs.EffectLists.{effect_assumption_list, const_rule_entries, source_of_const_rule, effect_list}
use Rattle.goal_lists.specs.Entries.{Entry, equal_terms, row_conditions, premise_entries}
use Rattle.goal_lists.specs.Interned.{AreIn, erased_all}
use Rattle.goal_lists.specs.NamedRows.{IsSorted, ListIsSorted}
use Rattle.goal_lists.specs.Premises.{TraitTree, Premise, predicate, equation, ConstRule, clauses_under, conditions_as}
use Rattle.goal_lists.specs.Settings.{Setting}
use Rattle.goal_lists.specs.TraitGoals.{any_error}
use Rattle.goal_lists.specs.TraitLists.{is_trait, impl_match}
use Rattle.goal_lists.specs.Words.{Each}
use Rattle.goal_kinds.proofs.SortedLists.{AreSorted, clauses-sorted, call_premises-sorted, one-sorted, none-sorted, polarity-sorted}

-- const conditions are traits
conditions-sorted : (g : GoalSource) (c : BoundConstness) (rs : List TraitTree) → Each IsSorted (premise_entries g (conditions_as c rs))
unfolding Each
conditions-sorted g c [] = tt
conditions-sorted g c (r ∷ rs) = (tt, conditions-sorted g c rs)

-- premises, and const conditions behind them
asked-sorted : (g : GoalSource) (c : BoundConstness) (ps : List Premise) (rs : List TraitTree) → AreSorted ps →
    Each IsSorted (premise_entries g ps ++ premise_entries g (conditions_as c rs))
unfolding Each
asked-sorted g c [] rs h = conditions-sorted g c rs
asked-sorted g c (predicate p ∷ ps) rs h = (h.0, asked-sorted g c ps rs h.1)
asked-sorted g c (equation t u ∷ ps) rs h = (tt, asked-sorted g c ps rs h.1)

-- rules for const traits that may be missing
abbrev RuleIsSorted : Option ConstRule → Type 0
RuleIsSorted o = IfSome o (λ r. AreSorted r.premises)

mapped-sorted : {A : Type 0} (o : Option A) (f : A → ConstRule) → ((x : A) → AreSorted (f x).premises) → RuleIsSorted (option_map f o)
mapped-sorted None f h = tt
mapped-sorted (Some x) f h = h x

then-sorted : {A : Type 0} (o : Option A) (f : A → Option ConstRule) → ((x : A) → RuleIsSorted (f x)) → RuleIsSorted (option_and_then f o)
then-sorted None f h = tt
then-sorted (Some x) f h = h x

where-sorted : (b : Bool) (o : Option ConstRule) → RuleIsSorted o → RuleIsSorted (if b then o else None)
where-sorted true o h = h
where-sorted false o h = tt

each-sorted : (i : TraitId) (tys : List Tree) → AreSorted (each_const i tys).premises
unfolding Each
each-sorted i tys = tt

-- calls
call-sorted : (t : Tables) (args : List Tree) (conditions : List TraitTree) (sig : Tree) → RuleIsSorted (const_call t args conditions sig)
call-sorted t args conditions sig =
    then-sorted (output_of sig) _ (λ output. mapped-sorted (lang_trait_of t lang.Sized) _ (λ sized. call_premises-sorted sized sig args output))

head-sorted : (t : Tables) (l : LangItem) (h : Head) (ts args : List Tree) → RuleIsSorted (const_call_of_head t l h ts args)
unfolding const_call_of_head
head-sorted t l (head.FnDef f n) ts args = then-sorted (function_of t f) _ (λ r. where-sorted r.is_const _ (then-sorted _ _ (λ sig. call-sorted t args _ sig)))
head-sorted t l (head.Closure c n) ts args = then-sorted (closure_of t c) _ (λ r. where-sorted r.is_const _ (then-sorted _ _ (λ sig. call-sorted t args _ sig)))
head-sorted t l h ts args = tt

called-sorted : (t : Tables) (l : LangItem) (self : Tree) (args : List Tree) → RuleIsSorted (const_call_rule t l self args)
called-sorted t l (node h ts) args = head-sorted t l h (list_of ts) args
called-sorted t l (alias k ts) args = tt
called-sorted t l (variable v) args = tt

-- `Destruct`
dropped-sorted : (t : Tables) (i : TraitId) (h : Head) (ts : List Tree) → RuleIsSorted (destruct_of_head t i h ts)
unfolding destruct_of_head Each
dropped-sorted t i (head.Dynamic n r) ts = tt
dropped-sorted t i (head.Foreign f) ts = tt
dropped-sorted t i (head.TyParam n) ts = tt
dropped-sorted t i (head.TyPlaceholder n) ts = tt
dropped-sorted t i (head.Closure c n) ts = mapped-sorted (closure_of t c) _ (λ r. tt)
dropped-sorted t i (head.Adt a n) ts = mapped-sorted (adt_of t a) _ (λ r. tt)
dropped-sorted t i h ts = tt

destruct-sorted : (t : Tables) (i : TraitId) (self : Tree) → RuleIsSorted (destruct_rule t i self)
unfolding Each
destruct-sorted t i (node h ts) = dropped-sorted t i h (list_of ts)
destruct-sorted t i (alias k ts) = tt
destruct-sorted t i (variable v) = tt

-- lang traits
lang-sorted : (t : Tables) (i : TraitId) (l : LangItem) (self : Tree) (args : List Tree) → RuleIsSorted (lang_const_rule t i l self args)
unfolding lang_const_rule
lang-sorted t i lang.Copy self args = mapped-sorted (copied_parts t self) (each_const i) (each-sorted i)
lang-sorted t i lang.Clone self args = mapped-sorted (copied_parts t self) (each_const i) (each-sorted i)
lang-sorted t i lang.Fn self args = called-sorted t lang.Fn self args
lang-sorted t i lang.FnMut self args = called-sorted t lang.FnMut self args
lang-sorted t i lang.FnOnce self args = called-sorted t lang.FnOnce self args
lang-sorted t i lang.Destruct self args = destruct-sorted t i self
lang-sorted t i l self args = tt

-- trait aliases, or lang traits
alias-sorted : (t : Tables) (i : TraitId) (self : Tree) (args : List Tree) (r : ConstRule) (b : Bool) → AreSorted r.premises →
    RuleIsSorted (if b then Some r else option_and_then (λ l. lang_const_rule t i l self args) (lang_of_trait t i))
alias-sorted t i self args r true h = h
alias-sorted t i self args r false h = then-sorted (lang_of_trait t i) _ (λ l. lang-sorted t i l self args)

row-sorted : (t : Tables) (i : TraitId) (self : Tree) (args : List Tree) (o : Option TraitRow) → ((cs : List Clause) → AreSorted (clauses_under (self ∷ args) cs)) →
    RuleIsSorted (alias_or_lang_const_rule t i self args o)
row-sorted t i self args None h = tt
row-sorted t i self args (Some r) h = alias-sorted t i self args _ r.is_alias (h r.predicates.items)

const_rule-sorted : (t : Tables) (i : TraitId) (T : List Tree) (ids : List TermId) → AreIn T ids → RuleIsSorted (const_rule t i (erased_all T ids))
unfolding const_rule
const_rule-sorted t i T [] h = tt
const_rule-sorted t i T (id ∷ ids) h = row-sorted t i _ _ (trait_of t i) (clauses-sorted T (id ∷ ids) h)

-- the lists
assumption-sorted : (c : BoundConstness) (i : TraitId) (args : List Tree) (p : PredicateTree) → ListIsSorted (effect_assumption_list c i args p)
unfolding effect_assumption_list
assumption-sorted c i args (holds_const b j bs) = one-sorted (is_trait j i && satisfies b c) bs args
assumption-sorted c i args (holds j bs) = tt
assumption-sorted c i args (equals a t) = tt

where-listed : (b : Bool) (o : Option (List Entry)) → ListIsSorted o → ListIsSorted (if b then o else None)
where-listed true o h = h
where-listed false o h = tt

bound-sorted : (g : GoalSource) (c : BoundConstness) (ts us : List Tree) (rs : List TraitTree) → Each IsSorted (equal_terms ts us ∷ premise_entries g (conditions_as c rs))
unfolding Each
bound-sorted g c ts us rs = (tt, conditions-sorted g c rs)

match-sorted : (c : BoundConstness) (r : ImplRow) (args : List Tree) → Each IsSorted (impl_match r args (row_conditions c r.const_conditions.items 0 ∷ []))
unfolding Each
match-sorted c r args = (tt, (tt, (tt, tt)))

rule-sorted : (g : GoalSource) (c : BoundConstness) (o : Option ConstRule) → RuleIsSorted o → ListIsSorted (option_map (const_rule_entries g c) o)
rule-sorted g c None h = tt
rule-sorted g c (Some r) h = asked-sorted g c r.premises r.conditions h

pub effect_list-sorted : (S : Setting) (c : BoundConstness) (i : TraitId) (T : List Tree) (ids : List TermId) → AreIn T ids → (x : Candidate) →
    ListIsSorted (effect_list S c i (erased_all T ids) x)
unfolding effect_list
effect_list-sorted S c i T ids h (assumption p) = assumption-sorted c i (erased_all T ids) p
effect_list-sorted S c i T ids h (implied_bound b rs) = where-listed (is_trait b.def_id i) (Some _) (bound-sorted _ c b.args (erased_all T ids) rs)
effect_list-sorted S c i T ids h (by_impl r) = where-listed r.is_const _ (polarity-sorted S.mode r.polarity _ (match-sorted c r (erased_all T ids)))
effect_list-sorted S c i T ids h built_in = rule-sorted (source_of_const_rule S.tables i (trait_of S.tables i)) c (const_rule S.tables i (erased_all T ids)) (const_rule-sorted S.tables i T ids h)
effect_list-sorted S c i T ids h error = none-sorted (any_error (erased_all T ids))
