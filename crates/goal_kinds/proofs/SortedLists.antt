-- The lists of trait goals equate only aliases with types and constants.
use Rattle.std.proofs.Common.{Bool, true, false, List, [], ◌∷◌, map, Option, Some, None, sym, ap, ◌∙◌, subst}
use Rattle.std.specs.Prelude.{IfSome, if◌then◌else◌}
use Rattle.std.specs.Option.{option_map, option_and_then}
use Rattle.goal_terms.specs.Erased.{erased}
use Rattle.goal_terms.specs.Folding.{instance, folded}
use Rattle.goal_terms.specs.PredicateTrees.{PredicateTree, holds, equals, holds_const, tree_of_kind}
use Rattle.goal_terms.specs.Sorts.{is_term_sort, IsTerm}
use Rattle.goal_interner.specs.TableMeaning.{tree_at}
use Rattle.goal_terms.specs.Tree.{Tree, node, alias, variable}
use Rattle.goal_terms.specs.TreeOf.{tree_of_alias, tree_of_term}
use Rattle.goal_terms.specs.declared.answers.GoalSource.{GoalSource}
use Rattle.goal_terms.specs.declared.heads.Head.{Head}
use Rattle.goal_terms.specs.declared.heads.Head.TheVariants as head
use Rattle.goal_terms.specs.declared.ids.TraitId.{TraitId}
use Rattle.goal_terms.specs.declared.modes.TypingMode.{TypingMode}
use Rattle.goal_terms.specs.declared.modes.TypingMode.TheVariants as modes
use Rattle.goal_terms.specs.declared.predicates.Clause.{Clause}
use Rattle.goal_terms.specs.declared.predicates.ClauseKind.{ClauseKind}
use Rattle.goal_terms.specs.declared.predicates.ClauseKind.TheVariants as clauses
use Rattle.goal_interner.specs.declared.term_nodes.TermId.{TermId}
use Rattle.goal_terms.specs.declared.terms.AliasTerm.{AliasTerm}
use Rattle.goal_terms.specs.declared.terms.Term.{Term}
use Rattle.goal_terms.proofs.SortLemmas.{term_sort}
use Rattle.goal_terms.proofs.TreeLemmas.{tree_of_alias-record}
use Rattle.goal_interner.proofs.UnderLemmas.{instantiating-sorts}
use Rattle.goal_tables.specs.Rows.{trait_of, adt_of, lang_trait_of}
use Rattle.goal_terms.specs.declared.lang.LangItem.{LangItem}
use Rattle.goal_terms.specs.declared.lang.LangItem.TheVariants as lang
use Rattle.goal_tables.specs.declared.rows.ImplPolarity.{ImplPolarity}
use Rattle.goal_tables.specs.declared.rows.ImplPolarity.TheVariants as polarity
use Rattle.goal_tables.specs.declared.rows.ImplRow.{ImplRow}
use Rattle.goal_tables.specs.declared.rows.Tables.{Tables}
use Rattle.goal_tables.specs.declared.rows.TraitRow.{TraitRow}
use Rattle.goal_lists.specs.Builtins.{each_is, last_is, constraint_is, sized_of_head, sized_rule, copied_parts, call_premises, output_of, signature_of, call_rule, where_true, is_fn_ptr, is_tuple, field_of, lang_of_trait, lang_rule, alias_or_lang_rule, trait_rule}
use Rattle.goal_lists.specs.Candidates.{Candidate, assumption, implied_bound, by_impl, built_in, error, last_of}
use Rattle.goal_lists.specs.Entries.{Entry, premise_entries, equal_terms}
use Rattle.goal_lists.specs.Headers.{under}
use Rattle.goal_lists.specs.Interned.{erased_all, AreIn}
use Rattle.goal_lists.specs.NamedRows.{IsAlias, IsSortedPredicate, IsSorted, ListIsSorted}
use Rattle.goal_lists.specs.Premises.{Premise, predicate, equation, predicate_under, clauses_under}
use Rattle.goal_lists.specs.Settings.{Setting}
use Rattle.goal_lists.specs.TraitLists.{is_trait, impl_match, reserved_list, list_by_polarity, trait_assumption_list, source_of_rule, trait_list}
use Rattle.goal_lists.specs.TraitGoals.{any_error}
use Rattle.goal_lists.specs.Words.{Each}
use Rattle.goal_kinds.proofs.RebuiltLemmas.{sort-of_erased}
use Rattle.goal_lists.proofs.UnderLemmas.{under-at, are_in-arguments}

-- premises that are sorted
abbrev pub IsSortedPremise : Premise → Type 0
IsSortedPremise (predicate p) = IsSortedPredicate p
IsSortedPremise (equation t u) = Unit {0}

abbrev pub AreSorted : List Premise → Type 0
AreSorted ps = Each IsSortedPremise ps

abbrev pub SomeSorted : Option (List Premise) → Type 0
SomeSorted o = IfSome o AreSorted

-- an alias under arguments is one
alias-under : (s : List Tree) (a : AliasTerm) → IsAlias (under s (tree_of_alias a))
unfolding erased folded
alias-under s a = subst (λ t. IsAlias (under s t)) (sym (tree_of_alias-record a)) tt

module _ (T : List Tree) (ids : List TermId) (args : AreIn T ids) where
  -- a type or a constant under arguments is one
  pub term-under : (e : Term) → IsTerm (under (erased_all T ids) (tree_of_term e))
  term-under e =
      let t = tree_of_term e in
      subst IsTerm (sym (under-at T ids t))
      (ap is_term_sort (sort-of_erased (instance (map (tree_at T) ids) t))
      ∙ ap is_term_sort (instantiating-sorts (map (tree_at T) ids) (are_in-arguments T ids args) 0 t) ∙ term_sort e)

  -- a row's clauses under arguments
  kind-sorted : (k : ClauseKind) → IsSortedPredicate (predicate_under (erased_all T ids) (tree_of_kind k))
  kind-sorted (clauses.Trait p) = tt
  kind-sorted (clauses.Projection p) = (alias-under (erased_all T ids) p.projection_term, term-under p.term)
  kind-sorted (clauses.HostEffect p) = tt

  pub clauses-sorted : (cs : List Clause) → AreSorted (clauses_under (erased_all T ids) cs)
  unfolding Each
  clauses-sorted [] = tt
  clauses-sorted (c ∷ cs) = (kind-sorted c.kind, clauses-sorted cs)

-- traits of types
each-sorted : (i : TraitId) (tys : List Tree) → AreSorted (each_is i tys)
unfolding Each
each-sorted i [] = tt
each-sorted i (ty ∷ tys) = (tt, each-sorted i tys)

last-sorted : (i : TraitId) (o : Option Tree) → AreSorted (last_is i o)
unfolding Each
last-sorted i None = tt
last-sorted i (Some ty) = each-sorted i (ty ∷ [])

-- lists that may be missing
mapped-sorted : {A : Type 0} (o : Option A) (f : A → List Premise) → ((x : A) → AreSorted (f x)) → SomeSorted (option_map f o)
mapped-sorted None f h = tt
mapped-sorted (Some x) f h = h x

then-sorted : {A : Type 0} (o : Option A) (f : A → Option (List Premise)) → ((x : A) → SomeSorted (f x)) → SomeSorted (option_and_then f o)
then-sorted None f h = tt
then-sorted (Some x) f h = h x

-- `Sized`
sized_head-sorted : (t : Tables) (i : TraitId) (h : Head) (ts : List Tree) → SomeSorted (sized_of_head t i h ts)
unfolding sized_of_head Each
sized_head-sorted t i head.Str ts = tt
sized_head-sorted t i head.Slice ts = tt
sized_head-sorted t i (head.Dynamic n r) ts = tt
sized_head-sorted t i (head.Foreign f) ts = tt
sized_head-sorted t i (head.TyParam n) ts = tt
sized_head-sorted t i (head.TyPlaceholder n) ts = tt
sized_head-sorted t i (head.Tuple n) ts = last-sorted i (last_of ts)
sized_head-sorted t i (head.Adt a n) ts = mapped-sorted (adt_of t a) (constraint_is i ts) (λ r. last-sorted i _)
sized_head-sorted t i h ts = tt

sized-sorted : (t : Tables) (i : TraitId) (self : Tree) → SomeSorted (sized_rule t i self)
unfolding Each
sized-sorted t i (node h ts) = sized_head-sorted t i h _
sized-sorted t i (alias k ts) = tt
sized-sorted t i (variable v) = tt

-- calls
pub call_premises-sorted : (sized : TraitId) (sig : Tree) (args : List Tree) (output : Tree) → AreSorted (call_premises sized sig args output)
unfolding Each
call_premises-sorted sized sig [] output = tt
call_premises-sorted sized sig (a ∷ args) output = (tt, each-sorted sized (output ∷ []))

call-sorted : (t : Tables) (l : LangItem) (self : Tree) (args : List Tree) → SomeSorted (call_rule t l self args)
unfolding call_rule
call-sorted t l self args =
    then-sorted (signature_of t l self) _
    (λ sig. then-sorted (output_of sig) _
    (λ output. mapped-sorted (lang_trait_of t lang.Sized) _ (λ sized. call_premises-sorted sized sig args output)))

where-sorted : (b : Bool) → SomeSorted (where_true b)
unfolding Each
where-sorted true = tt
where-sorted false = tt

-- the rules of lang traits
lang-sorted : (t : Tables) (i : TraitId) (l : LangItem) (self : Tree) (args : List Tree) → SomeSorted (lang_rule t i l self args)
unfolding lang_rule Each
lang-sorted t i lang.Sized self args = sized-sorted t i self
lang-sorted t i lang.Copy self args = mapped-sorted (copied_parts t self) (each_is i) (each-sorted i)
lang-sorted t i lang.Clone self args = mapped-sorted (copied_parts t self) (each_is i) (each-sorted i)
lang-sorted t i lang.Fn self args = call-sorted t lang.Fn self args
lang-sorted t i lang.FnMut self args = call-sorted t lang.FnMut self args
lang-sorted t i lang.FnOnce self args = call-sorted t lang.FnOnce self args
lang-sorted t i lang.FnPtr self args = where-sorted (is_fn_ptr self)
lang-sorted t i lang.Tuple self args = where-sorted (is_tuple self)
lang-sorted t i lang.Pointee self args = tt
lang-sorted t i lang.DiscriminantKind self args = tt
lang-sorted t i lang.Destruct self args = tt
lang-sorted t i lang.Field self args = then-sorted (field_of t self) _ (λ p. mapped-sorted p.1.field_info _ (λ f. tt))
lang-sorted t i l self args = tt

-- a trait alias, or a lang trait
tested-sorted : (t : Tables) (i : TraitId) (self : Tree) (args : List Tree) (ps : List Premise) (b : Bool) → AreSorted ps →
    SomeSorted (if b then Some ps else option_and_then (λ l. lang_rule t i l self args) (lang_of_trait t i))
tested-sorted t i self args ps true h = h
tested-sorted t i self args ps false h = then-sorted (lang_of_trait t i) _ (λ l. lang-sorted t i l self args)

row-sorted : (t : Tables) (i : TraitId) (self : Tree) (args : List Tree) (o : Option TraitRow) → ((cs : List Clause) → AreSorted (clauses_under (self ∷ args) cs)) →
    SomeSorted (alias_or_lang_rule t i self args o)
row-sorted t i self args None h = tt
row-sorted t i self args (Some r) h = tested-sorted t i self args (clauses_under (self ∷ args) r.predicates.items) r.is_alias (h r.predicates.items)

trait_rule-sorted : (t : Tables) (i : TraitId) (T : List Tree) (ids : List TermId) → AreIn T ids → SomeSorted (trait_rule t i (erased_all T ids))
unfolding trait_rule
trait_rule-sorted t i T [] h = tt
trait_rule-sorted t i T (id ∷ ids) h = row-sorted t i _ _ (trait_of t i) (clauses-sorted T (id ∷ ids) h)

-- the entries of premises
pub premises-sorted : (g : GoalSource) (ps : List Premise) → AreSorted ps → Each IsSorted (premise_entries g ps)
unfolding Each
premises-sorted g [] h = tt
premises-sorted g (predicate p ∷ ps) h = (h.0, premises-sorted g ps h.1)
premises-sorted g (equation t u ∷ ps) h = (tt, premises-sorted g ps h.1)

rule-sorted : (g : GoalSource) (o : Option (List Premise)) → SomeSorted o → ListIsSorted (option_map (premise_entries g) o)
rule-sorted g None h = tt
rule-sorted g (Some ps) h = premises-sorted g ps h

-- the match of an impl's header
match-sorted : (r : ImplRow) (args : List Tree) → Each IsSorted (impl_match r args [])
unfolding Each
match-sorted r args = (tt, (tt, tt))

reserved-sorted : (m : TypingMode) (es : List Entry) → Each IsSorted es → ListIsSorted (reserved_list m es)
unfolding Each
reserved-sorted modes.Coherence es h = (tt, h)
reserved-sorted m es h = tt

pub polarity-sorted : (m : TypingMode) (p : ImplPolarity) (es : List Entry) → Each IsSorted es → ListIsSorted (list_by_polarity m p es)
unfolding list_by_polarity
polarity-sorted m polarity.Positive es h = h
polarity-sorted m polarity.Negative es h = tt
polarity-sorted m polarity.Reservation es h = reserved-sorted m es h

-- a test of what is one entry
pub one-sorted : (b : Bool) (ts us : List Tree) → ListIsSorted (if b then Some (equal_terms ts us ∷ []) else None)
unfolding Each
one-sorted true ts us = (tt, tt)
one-sorted false ts us = tt

pub none-sorted : (b : Bool) → ListIsSorted (if b then Some [] else None)
unfolding Each
none-sorted true = tt
none-sorted false = tt

assumption-sorted : (i : TraitId) (args : List Tree) (p : PredicateTree) → ListIsSorted (trait_assumption_list i args p)
unfolding trait_assumption_list
assumption-sorted i args (holds j bs) = one-sorted (is_trait j i) bs args
assumption-sorted i args (equals a t) = tt
assumption-sorted i args (holds_const c j bs) = tt

-- the lists of all candidates for a trait goal
pub trait_list-sorted : (S : Setting) (i : TraitId) (T : List Tree) (ids : List TermId) → AreIn T ids → (c : Candidate) → ListIsSorted (trait_list S i (erased_all T ids) c)
unfolding trait_list
trait_list-sorted S i T ids h (assumption p) = assumption-sorted i (erased_all T ids) p
trait_list-sorted S i T ids h (implied_bound b cs) = tt
trait_list-sorted S i T ids h (by_impl r) = polarity-sorted S.mode r.polarity (impl_match r (erased_all T ids) []) (match-sorted r (erased_all T ids))
trait_list-sorted S i T ids h built_in = rule-sorted (source_of_rule (trait_of S.tables i)) (trait_rule S.tables i (erased_all T ids)) (trait_rule-sorted S.tables i T ids h)
trait_list-sorted S i T ids h error = none-sorted (any_error (erased_all T ids))
