use Rattle.std.proofs.Common.{◌≡◌, subst}
use Rattle.std.specs.Prelude.{IfOk}
use Rattle.goal_interner.specs.TableMeaning.{tree_at}
use Rattle.goal_lists.specs.Interned.{listed_at}
use Rattle.goal_lists.proofs.ItemTermLemmas.{metadata-pointer, metadata-error, metadata-dyn, metadata-adt, metadata-tuple, metadata-parameter, metadata-other}
use Rattle.goal_lists.proofs.builtin.item_terms.metadata_of_head.Goals as goal

pub returns-in-Str-clause-listed : goal.returns-in-Str-clause-listed
returns-in-Str-clause-listed c =
    subst (λ x. IfOk c.listed_leaf.result (λ l. listed_at c.listed_leaf.new.terms l ≡ x))
    (metadata-pointer c.args.rows.now c.args.item (tree_at c.args.terms.now c.args.self_ty) c.args.head c.requires.top c.in-Str.is) c.listed_leaf.ensures.listed

pub returns-in-TyError-clause-listed : goal.returns-in-TyError-clause-listed
returns-in-TyError-clause-listed c =
    subst (λ x. IfOk c.listed_leaf-in-TyError.result (λ l. listed_at c.listed_leaf-in-TyError.new.terms l ≡ x))
    (metadata-error c.args.rows.now c.args.item (tree_at c.args.terms.now c.args.self_ty) c.args.head c.in-TyError.number c.requires.top c.in-TyError.is)
    c.listed_leaf-in-TyError.ensures.listed

pub returns-in-Dynamic-clause-listed : goal.returns-in-Dynamic-clause-listed
returns-in-Dynamic-clause-listed c =
    subst (λ x. IfOk c.dyn_metadata.result (λ l. listed_at c.dyn_metadata.new.terms l ≡ x))
    (metadata-dyn c.args.rows.now c.args.item (tree_at c.args.terms.now c.args.self_ty) c.args.head c.in-Dynamic.field-0 c.in-Dynamic.field-1 c.requires.top c.in-Dynamic.is)
    c.dyn_metadata.ensures.listed

pub returns-in-Adt-clause-listed : goal.returns-in-Adt-clause-listed
returns-in-Adt-clause-listed c =
    subst (λ x. IfOk c.adt_metadata.result (λ l. listed_at c.adt_metadata.new.terms l ≡ x))
    (metadata-adt c.args.rows.now c.args.item (tree_at c.args.terms.now c.args.self_ty) c.args.head c.in-Adt.adt c.in-Adt.field-1 c.requires.top c.in-Adt.is)
    c.adt_metadata.ensures.listed

pub returns-in-Tuple-clause-listed : goal.returns-in-Tuple-clause-listed
returns-in-Tuple-clause-listed c =
    subst (λ x. IfOk c.tuple_metadata.result (λ l. listed_at c.tuple_metadata.new.terms l ≡ x))
    (metadata-tuple c.args.rows.now c.args.item (tree_at c.args.terms.now c.args.self_ty) c.args.head c.in-Tuple.field-0 c.requires.top c.in-Tuple.is)
    c.tuple_metadata.ensures.listed

pub returns-in-TyParam-clause-within : goal.returns-in-TyParam-clause-within
returns-in-TyParam-clause-within c = c.by_size.ensures.within c.args.terms.now

pub returns-in-TyParam-clause-listed : goal.returns-in-TyParam-clause-listed
returns-in-TyParam-clause-listed c =
    subst (λ x. listed_at c.args.terms.now c.by_size.result ≡ x)
    (metadata-parameter c.args.rows.now c.args.item (tree_at c.args.terms.now c.args.self_ty) c.args.head c.requires.top c.in-TyParam.is)
    (c.by_size.ensures.listed c.args.terms.now)

pub returns-in_default-clause-listed : goal.returns-in_default-clause-listed
returns-in_default-clause-listed c =
    subst (λ x. IfOk c.listed_leaf-in_default.result (λ l. listed_at c.listed_leaf-in_default.new.terms l ≡ x))
    (metadata-other c.args.rows.now c.args.item (tree_at c.args.terms.now c.args.self_ty) c.args.head c.requires.top
    c.in_default.not-Str c.in_default.not-Slice c.in_default.not-TyError c.in_default.not-Dynamic c.in_default.not-Adt c.in_default.not-Tuple
    c.in_default.not-TyParam c.in_default.not-TyPlaceholder)
    c.listed_leaf-in_default.ensures.listed
