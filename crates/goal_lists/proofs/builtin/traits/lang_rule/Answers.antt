use Rattle.std.proofs.Common.{◌≡◌, ◌⊎◌, inl, inr, ◌∙◌, List, true, ap, sym}
use Rattle.goal_terms.specs.Tree.{Tree}
use Rattle.goal_terms.specs.declared.ids.TraitId.{TraitId}
use Rattle.goal_terms.specs.declared.lang.LangItem.{LangItem}
use Rattle.goal_terms.specs.declared.lang.LangItem.TheVariants as lang
use Rattle.goal_tables.specs.declared.rows.Tables.{Tables}
use Rattle.goal_lists.specs.Builtins.{lang_rule, where_true}
use Rattle.goal_lists.specs.Interned.{erased_at, erased_all}
use Rattle.goal_lists.proofs.builtin.traits.lang_rule.Goals as goal

pub returns-in-FnPtr-clause-within : goal.returns-in-FnPtr-clause-within
returns-in-FnPtr-clause-within c = c.where_true.ensures.within c.args.terms.now

pub returns-in-FnPtr-clause-premises : goal.returns-in-FnPtr-clause-premises
unfolding lang_rule
returns-in-FnPtr-clause-premises c =
    c.where_true.ensures.premises _ ∙ ap where_true c.is_fn_ptr.ensures
    ∙ ap (λ l. lang_rule c.args.rows.now c.args.trait_id l (erased_at c.args.terms.now c.args.self_ty) (erased_all c.args.terms.now c.args.args.now)) (sym c.in-FnPtr.is)

pub returns-in-Tuple-clause-within : goal.returns-in-Tuple-clause-within
returns-in-Tuple-clause-within c = c.where_true-in-Tuple.ensures.within c.args.terms.now

pub returns-in-Tuple-clause-premises : goal.returns-in-Tuple-clause-premises
unfolding lang_rule
returns-in-Tuple-clause-premises c =
    c.where_true-in-Tuple.ensures.premises _ ∙ ap where_true c.is_tuple.ensures
    ∙ ap (λ l. lang_rule c.args.rows.now c.args.trait_id l (erased_at c.args.terms.now c.args.self_ty) (erased_all c.args.terms.now c.args.args.now)) (sym c.in-Tuple.is)

pub returns-in-Pointee-clause-within : goal.returns-in-Pointee-clause-within
returns-in-Pointee-clause-within c = c.where_true-in-Pointee.ensures.within c.args.terms.now

-- a trait that every type has
always : (t : Tables) (i : TraitId) (l : LangItem) (self : Tree) (args : List Tree) →
    (l ≡ lang.Pointee) ⊎ ((l ≡ lang.DiscriminantKind) ⊎ (l ≡ lang.Destruct)) → where_true true ≡ lang_rule t i l self args
unfolding lang_rule
always t i l self args (inl e) = ap (λ x. lang_rule t i x self args) (sym e)
always t i l self args (inr (inl e)) = ap (λ x. lang_rule t i x self args) (sym e)
always t i l self args (inr (inr e)) = ap (λ x. lang_rule t i x self args) (sym e)

pub returns-in-Pointee-clause-premises : goal.returns-in-Pointee-clause-premises
returns-in-Pointee-clause-premises c =
    c.where_true-in-Pointee.ensures.premises _
    ∙ always c.args.rows.now c.args.trait_id c.args.lang (erased_at c.args.terms.now c.args.self_ty) (erased_all c.args.terms.now c.args.args.now) c.in-Pointee.is

pub returns-in-Field-clause-within : goal.returns-in-Field-clause-within
returns-in-Field-clause-within c = c.where_true-in-Field.ensures.within c.args.terms.now

pub returns-in-Field-clause-premises : goal.returns-in-Field-clause-premises
unfolding lang_rule
returns-in-Field-clause-premises c =
    c.where_true-in-Field.ensures.premises _ ∙ c.has_field.ensures
    ∙ ap (λ l. lang_rule c.args.rows.now c.args.trait_id l (erased_at c.args.terms.now c.args.self_ty) (erased_all c.args.terms.now c.args.args.now)) (sym c.in-Field.is)
