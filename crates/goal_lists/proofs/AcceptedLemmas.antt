-- Of accepted arguments of one trait only heads can differ.
use Rattle.std.proofs.Common.{◌≡◌, Bool, true, false, ◌==◌, ◌&&◌, ◌||◌, List, [], ◌∷◌, length, map, Option, Some, refl, sym, ap, ◌∙◌, inl, inr}
use Rattle.std.specs.Prelude.{cond, is_none, unwrap_or}
use Rattle.std.specs.List.{find, list_any}
use Rattle.std.proofs.lemmas.List.{length-map}
use Rattle.goal_terms.specs.Erased.{erased}
use Rattle.goal_terms.specs.Tree.{node_of}
use Rattle.goal_terms.specs.Kinds.{kind_of}
use Rattle.goal_terms.specs.TreeOf.{tree_of_arg, trees_of}
use Rattle.goal_terms.specs.declared.answers.ParamKind.{ParamKind}
use Rattle.goal_terms.specs.declared.ids.TraitId.{TraitId}
use Rattle.goal_terms.specs.declared.terms.GenericArg.{GenericArg}
use Rattle.goal_tables.specs.Clauses.{kinds_of, own_fault, lies_in_args, lies_in_trait_args, lies_in_clauses, lies_in_const_refs, const_fault}
use Rattle.goal_tables.specs.Faults.{IsChecked, applies, unknown_item, wrong_argument_count, wrong_argument_kind}
use Rattle.goal_tables.specs.ParamKinds.{differs_in_count, asks_other_kinds}
use Rattle.goal_tables.specs.RowFaults.{if_unknown, item_scope, with_alias, lies_in_const_bounds, lies_in_item, lies_in_impl, lies_in_trait, lies_in_lang, lies_in_definition, lies_in_source, lies_in_trait_rows, lies_in_impl_rows, lies_in_alias_rows, lies_in_inherent_rows, lies_in_type_rows, lies_in_rows}
use Rattle.goal_tables.specs.Rows.{trait_of, impl_of}
use Rattle.goal_tables.specs.Sites.{lies_in, trait_params}
use Rattle.goal_tables.specs.declared.faults.TableFault.TheVariants as fault
use Rattle.goal_tables.specs.declared.rows.ImplRow.{ImplRow}
use Rattle.goal_tables.specs.declared.rows.Tables.{Tables}
use Rattle.goal_tables.specs.declared.faults.TermFault as faults
use Rattle.goal_tables.specs.declared.faults.TermFault.TheVariants.{UnknownItem, WrongArgumentCount, WrongArgumentKind}
use Rattle.goal_lists.specs.FastReject.{lists_may_unify, heads_agree}
use Rattle.goal_lists.specs.Headers.{Clashes, Known}
use Rattle.goal_lists.specs.KindedTerms.{kinds_of_terms, kinds_over, IsKinded, IsAcceptedRef}
use Rattle.goal_lists.specs.Laws.{IsAmong}
use Rattle.goal_lists.specs.Level.{nothing}
use Rattle.goal_lists.specs.Levels.{level}
use Rattle.goal_lists.specs.Settings.{Setting}
use Rattle.goal_lists.specs.Words.{Each, Exists}
use Rattle.goal_lists.specs.declared.fast_reject.Parameters.{Parameters}
use Rattle.goal_lists.specs.declared.fast_reject.Parameters.TheVariants.{Inferred}
use Rattle.goal_lists.proofs.KindedLemmas.{lists-kinded}
use Rattle.goal_lists.proofs.OtherHeadLemmas.{lists_clash}
use Rattle.goal_lists.proofs.PublicTermLemmas.{arg_through}
use Rattle.goal_lists.proofs.TableKindLemmas.{both_fail, kinds_by_row, known_map, HasTraitsOfItems, accepted_kinded}

-- the first element that is found, or one of the others
one_found : {A : Type 0} (b : Bool) (o : Option A) (x y : A) (p : A → Bool) → cond b (Some y) o ≡ Some x → p y ≡ false → (o ≡ Some x → p x ≡ false) → p x ≡ false
one_found true o x y p e f g = let same : y ≡ x = cc in sym (ap p same) ∙ f
one_found false o x y p e f g = g e

-- what a look-up finds fails a test that no row passes
pub found_fails : {A : Type 0} (test p : A → Bool) (xs : List A) (x : A) → find test xs ≡ Some x → list_any p xs ≡ false → p x ≡ false
found_fails test p [] x e f = absurd (cc)
found_fails test p (y ∷ ys) x e f =
    let each : (p y ≡ false) × (list_any p ys ≡ false) = both_fail (p y) (list_any p ys) f in
    one_found (test y) (find test ys) x y p e each.0 (λ g. found_fails test p ys x g each.1)

-- and so does a row that is among them
among_fails : (p : ImplRow → Bool) (rows : List ImplRow) (r : ImplRow) → IsAmong r rows → list_any p rows ≡ false → p r ≡ false
unfolding Exists
among_fails p [] r x f = absurd x
among_fails p (q ∷ rows) r x f =
    let each : (p q ≡ false) × (list_any p rows ≡ false) = both_fail (p q) (list_any p rows) f in
    elim x [ inl e ↦ sym (ap p e) ∙ each.0 | inr y ↦ among_fails p rows r y each.1 ]

-- no fault lies in the rows of accepted tables
rows_unknown : (t : Tables) → IsChecked t → lies_in_rows t UnknownItem ≡ false
unfolding IsChecked applies unknown_item
rows_unknown t ok = ok fault.UnknownItem

rows_count : (t : Tables) → IsChecked t → lies_in_rows t WrongArgumentCount ≡ false
unfolding IsChecked applies wrong_argument_count
rows_count t ok = ok fault.WrongArgumentCount

rows_kind : (t : Tables) → IsChecked t → lies_in_rows t WrongArgumentKind ≡ false
unfolding IsChecked applies wrong_argument_kind
rows_kind t ok = ok fault.WrongArgumentKind

-- of tests that all fail the first ones
first_three_fail : (a b c : Bool) → a || b || c ≡ false → (a ≡ false) × (b ≡ false)
first_three_fail a b c e = both_fail a b (both_fail (a || b) c e).0

first_four_fail : (a b c d : Bool) → a || b || c || d ≡ false → (a ≡ false) × (b ≡ false)
first_four_fail a b c d e = first_three_fail a b c (both_fail (a || b || c) d e).0

first_five_fail : (a b c d f : Bool) → a || b || c || d || f ≡ false → (a ≡ false) × (b ≡ false)
first_five_fail a b c d f e = first_four_fail a b c d (both_fail (a || b || c || d) f e).0

-- of faults of one sort none lies in an item or in an impl
groups_fail : (t : Tables) (f : faults.TermFault) → lies_in_rows t f ≡ false → (lies_in_trait_rows t f ≡ false) × (lies_in_impl_rows t f ≡ false)
unfolding lies_in_rows
groups_fail t f e = first_five_fail (lies_in_trait_rows t f) (lies_in_impl_rows t f) (lies_in_alias_rows t f) (lies_in_inherent_rows t f) (lies_in_type_rows t f) e

items_fail : (t : Tables) (f : faults.TermFault) → lies_in_rows t f ≡ false → list_any (λ r. lies_in_item t f r) t.items.items ≡ false
unfolding lies_in_trait_rows
items_fail t f e =
    (first_three_fail (list_any (λ r. lies_in_trait t f r) t.traits.items) (list_any (λ r. lies_in_item t f r) t.items.items)
    (list_any (λ r. lies_in_lang t f r) t.lang_items.items) (groups_fail t f e).0).1

impls_fail : (t : Tables) (f : faults.TermFault) → lies_in_rows t f ≡ false → list_any (λ r. lies_in_impl t f r) t.impls.items ≡ false
unfolding lies_in_impl_rows
impls_fail t f e =
    (first_three_fail (list_any (λ r. lies_in_impl t f r) t.impls.items) (list_any (λ r. lies_in_definition t f r) t.definitions.items)
    (list_any (λ r. lies_in_source t f r) t.sources.items) (groups_fail t f e).1).0

-- in accepted tables each item's trait has a row
pub traits_of_items : (t : Tables) → IsChecked t → HasTraitsOfItems t
unfolding lies_in_item if_unknown
traits_of_items t ok i r e =
    (both_fail
    (lies_in_clauses t (item_scope t r) UnknownItem r.own_predicates.items
    || lies_in_clauses t (with_alias (item_scope t r)) UnknownItem r.bounds.items
    || lies_in_const_bounds t (with_alias (item_scope t r)) UnknownItem r.const_bounds)
    (is_none (trait_of t r.trait_id))
    (found_fails (λ q. q.id.0 == i.0) (λ q. lies_in_item t UnknownItem q) t.items.items r e (items_fail t UnknownItem (rows_unknown t ok)))).1

header_fails : (t : Tables) (r : ImplRow) (f : faults.TermFault) → lies_in_rows t f ≡ false → IsAmong r t.impls.items →
    lies_in_trait_args t r.params.items f r.trait_id r.trait_args.items ≡ false
unfolding lies_in_impl
header_fails t r f e among =
    (first_four_fail (lies_in_trait_args t r.params.items f r.trait_id r.trait_args.items) (lies_in_clauses t r.params.items f r.predicates.items)
    (lies_in_const_refs t r.params.items f r.const_conditions.items) (r.is_const && const_fault t f r.trait_id)
    (both_fail (lies_in_trait_args t r.params.items f r.trait_id r.trait_args.items || lies_in_clauses t r.params.items f r.predicates.items || lies_in_const_refs t r.params.items f r.const_conditions.items || (r.is_const && const_fault t f r.trait_id))
    (if_unknown f (list_any (λ i. is_none (impl_of t i)) r.more_special.items))
    (among_fails (λ q. lies_in_impl t f q) t.impls.items r among (impls_fail t f e))).0).0

-- in accepted tables the header of an impl is accepted
pub header_accepted : (t : Tables) (r : ImplRow) → IsChecked t → IsAmong r t.impls.items → IsAcceptedRef t r.params.items r.trait_id r.trait_args.items
header_accepted t r ok among = (
  header_fails t r UnknownItem (rows_unknown t ok) among,
  header_fails t r WrongArgumentCount (rows_count t ok) among,
  header_fails t r WrongArgumentKind (rows_kind t ok) among,
)

-- the kinds of arguments are those of their trees
kinds_of-trees : (args : List GenericArg) → kinds_of_terms (trees_of args) ≡ kinds_of args
kinds_of-trees [] = refl
kinds_of-trees (a ∷ args) = ap (λ ks. kind_of (node_of (tree_of_arg a)) ∷ ks) (kinds_of-trees args)

-- accepted arguments have the kinds of the trait's parameters
pub kinds_of_accepted : (t : Tables) (ps : List ParamKind) (i : TraitId) (args : List GenericArg) → IsAcceptedRef t ps i args →
    kinds_of_terms (trees_of args) ≡ unwrap_or (trait_params t i) []
unfolding own_fault
kinds_of_accepted t ps i args ok =
    let known : (is_none (trait_of t i) ≡ false) × (lies_in_args t ps UnknownItem args ≡ false) = both_fail (is_none (trait_of t i)) (lies_in_args t ps UnknownItem args) ok.0 in
    let count : (differs_in_count (trait_params t i) (length args) ≡ false) × (lies_in_args t ps WrongArgumentCount args ≡ false) =
    both_fail (differs_in_count (trait_params t i) (length args)) (lies_in_args t ps WrongArgumentCount args) ok.1 in
    let kinds : (asks_other_kinds (trait_params t i) (kinds_of args) ≡ false) × (lies_in_args t ps WrongArgumentKind args ≡ false) =
    both_fail (asks_other_kinds (trait_params t i) (kinds_of args)) (lies_in_args t ps WrongArgumentKind args) ok.2 in
    kinds_by_row (trait_params t i) (trees_of args) (known_map (λ r. r.params.items) (trait_of t i) known.0)
    (ap (differs_in_count (trait_params t i)) (length-map args tree_of_arg) ∙ count.0)
    (ap (asks_other_kinds (trait_params t i)) (kinds_of-trees args) ∙ kinds.0)

-- accepted arguments are of the kinds that the tables say
args_kinded : (t : Tables) (ps : List ParamKind) → HasTraitsOfItems t → (args : List GenericArg) →
    lies_in_args t ps UnknownItem args ≡ false → lies_in_args t ps WrongArgumentCount args ≡ false → lies_in_args t ps WrongArgumentKind args ≡ false →
    Each (IsKinded (kinds_over t)) (trees_of args)
unfolding Each
args_kinded t ps traits [] a b c = tt
args_kinded t ps traits (x ∷ xs) a b c =
    let u : (lies_in t ps UnknownItem (tree_of_arg x) ≡ false) × (lies_in_args t ps UnknownItem xs ≡ false) =
    both_fail (lies_in t ps UnknownItem (tree_of_arg x)) (lies_in_args t ps UnknownItem xs) a in
    let v : (lies_in t ps WrongArgumentCount (tree_of_arg x) ≡ false) × (lies_in_args t ps WrongArgumentCount xs ≡ false) =
    both_fail (lies_in t ps WrongArgumentCount (tree_of_arg x)) (lies_in_args t ps WrongArgumentCount xs) b in
    let w : (lies_in t ps WrongArgumentKind (tree_of_arg x) ≡ false) × (lies_in_args t ps WrongArgumentKind xs ≡ false) =
    both_fail (lies_in t ps WrongArgumentKind (tree_of_arg x)) (lies_in_args t ps WrongArgumentKind xs) c in
    (accepted_kinded t ps traits (tree_of_arg x) (arg_through x) (u.0, v.0, w.0), args_kinded t ps traits xs u.1 v.1 w.1)

pub ref_kinded : (t : Tables) (ps : List ParamKind) → HasTraitsOfItems t → (i : TraitId) (args : List GenericArg) → IsAcceptedRef t ps i args →
    Each (IsKinded (kinds_over t)) (trees_of args)
ref_kinded t ps traits i args ok =
    args_kinded t ps traits args
    (both_fail (own_fault t UnknownItem i args) (lies_in_args t ps UnknownItem args) ok.0).1
    (both_fail (own_fault t WrongArgumentCount i args) (lies_in_args t ps WrongArgumentCount args) ok.1).1
    (both_fail (own_fault t WrongArgumentKind i args) (lies_in_args t ps WrongArgumentKind args) ok.2).1

-- accepted arguments of one trait are rejected only where two heads differ
pub accepted-heads : (t : Tables) (i : TraitId) (ps qs : List ParamKind) (p : Parameters) (left right : List GenericArg) →
    IsChecked t → IsAcceptedRef t ps i left → IsAcceptedRef t qs i right →
    lists_may_unify p (trees_of left) (trees_of right) ≡ heads_agree p (trees_of left) (trees_of right)
accepted-heads t i ps qs p left right ok x y =
    lists-kinded (kinds_over t) p (trees_of left) (trees_of right)
    (ref_kinded t ps (traits_of_items t ok) i left x) (ref_kinded t qs (traits_of_items t ok) i right y)
    (kinds_of_accepted t ps i left x ∙ sym (kinds_of_accepted t qs i right y))

-- the header of an impl that is rejected clashes
pub rejected-clashes : (S : Setting) (r : ImplRow) (ps : List ParamKind) (args : List GenericArg) → IsChecked S.tables → IsAmong r S.tables.impls.items →
    IsAcceptedRef S.tables ps r.trait_id args → lists_may_unify Inferred (trees_of args) (trees_of r.trait_args.items) ≡ false →
    Clashes (level S 0) r.params.items (map erased (trees_of r.trait_args.items)) (map erased (trees_of args))
unfolding level Clashes
rejected-clashes S r ps args ok among accepted rejected =
    lists_clash nothing (Known (level S 0) r.params.items (map erased (trees_of r.trait_args.items)) (map erased (trees_of args))) (trees_of args) (trees_of r.trait_args.items)
    (sym (accepted-heads S.tables r.trait_id ps r.params.items Inferred args r.trait_args.items ok accepted (header_accepted S.tables r ok among)) ∙ rejected)
