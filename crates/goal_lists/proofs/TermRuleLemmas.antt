-- The rule of an item, by the lang item that names it.
use Rattle.std.proofs.Common.{◌≡◌, List, [], ◌∷◌, Option, Some, None, sym, ap, ◌∙◌, subst}
use Rattle.std.proofs.lemmas.List.Elements.{All-tail}
use Rattle.goal_terms.specs.Tree.{Tree}
use Rattle.goal_terms.specs.declared.ids.ItemId.{ItemId}
use Rattle.goal_interner.specs.declared.term_nodes.TermId.{TermId}
use Rattle.goal_terms.specs.declared.lang.LangItem.{LangItem}
use Rattle.goal_tables.specs.declared.rows.Tables.{Tables}
use Rattle.goal_lists.specs.Builtins.{nothing_listed, lang_of_item, lang_term, term_of_lang, term_rule}
use Rattle.goal_lists.specs.Interned.{erased_at, erased_all, IsIn, AreIn}

-- the arguments after the self type
pub rest-in : (T : List Tree) (args rest : List TermId) (self : TermId) → args ≡ self ∷ rest → AreIn T args → AreIn T rest
rest-in T args rest self e h = All-tail (IsIn T) self rest (subst (AreIn T) e h)

-- there is no self type
pub rule-no_self : (t : Tables) (item : ItemId) (T : List Tree) (args : List TermId) → args ≡ [] → nothing_listed ≡ term_rule t item (erased_all T args)
unfolding term_rule
rule-no_self t item T args e = ap (λ ids. term_rule t item (erased_all T ids)) (sym e)

-- no lang item names the item, or one does
rule-of : (t : Tables) (item : ItemId) (T : List Tree) (args rest : List TermId) (self : TermId) (o : Option LangItem) → args ≡ self ∷ rest → o ≡ lang_of_item t item →
    term_of_lang t item (erased_at T self) (erased_all T rest) o ≡ term_rule t item (erased_all T args)
unfolding term_rule
rule-of t item T args rest self o e f =
    ap (term_of_lang t item (erased_at T self) (erased_all T rest)) f ∙ ap (λ ids. term_rule t item (erased_all T ids)) (sym e)

pub rule-unnamed : (t : Tables) (item : ItemId) (T : List Tree) (args rest : List TermId) (self : TermId) → args ≡ self ∷ rest → None ≡ lang_of_item t item →
    nothing_listed ≡ term_rule t item (erased_all T args)
rule-unnamed t item T args rest self e f = rule-of t item T args rest self None e f

pub rule-named : (t : Tables) (item : ItemId) (T : List Tree) (args rest : List TermId) (self : TermId) (l : LangItem) → args ≡ self ∷ rest → Some l ≡ lang_of_item t item →
    lang_term t item l (erased_at T self) (erased_all T rest) ≡ term_rule t item (erased_all T args)
rule-named t item T args rest self l e f = rule-of t item T args rest self (Some l) e f
