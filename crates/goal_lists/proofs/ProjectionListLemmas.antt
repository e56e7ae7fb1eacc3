-- Lists of candidates for projections, by what is there.
use Rattle.std.proofs.Common.{◌≡◌, ℕ, List, Option, take, drop, refl, sym, ap, ◌∙◌, subst, eq-eqb}
use Rattle.std.specs.Prelude.{if◌then◌else◌}
use Rattle.std.proofs.lemmas.Bool.{ne_eqb}
use Rattle.std.proofs.lemmas.List.{take-map, drop-map}
use Rattle.std.proofs.lemmas.List.Elements.{All-take, All-drop}
use Rattle.goal_terms.specs.Tree.{Tree}
use Rattle.goal_terms.specs.TreeOf.{trees_of}
use Rattle.goal_terms.specs.declared.answers.ParamKind.{ParamKind}
use Rattle.goal_terms.specs.declared.ids.ImplId.{ImplId}
use Rattle.goal_terms.specs.declared.modes.TypingMode.{TypingMode}
use Rattle.goal_terms.specs.declared.modes.TypingMode.TheVariants as mode
use Rattle.goal_interner.specs.declared.term_nodes.TermId.{TermId}
use Rattle.goal_terms.specs.declared.terms.GenericArg.{GenericArg}
use Rattle.goal_terms.specs.declared.terms.Term.{Term}
use Rattle.goal_tables.specs.Rows.{impl_of}
use Rattle.goal_tables.specs.declared.rows.Container.{Container}
use Rattle.goal_tables.specs.declared.rows.Container.TheVariants as container
use Rattle.goal_tables.specs.declared.rows.DefRow.{DefRow}
use Rattle.goal_tables.specs.declared.rows.DefValue.{DefValue}
use Rattle.goal_tables.specs.declared.rows.DefValue.TheVariants as value
use Rattle.goal_tables.specs.declared.rows.ImplRow.{ImplRow}
use Rattle.goal_lists.specs.Builtins.{Listed}
use Rattle.goal_lists.specs.Entries.{Entry, arguments, of_other_header}
use Rattle.goal_lists.specs.ImplTerms.{Projection, from_impl, from_other, taken}
use Rattle.goal_lists.specs.Interned.{erased_at, erased_all, AreIn, IsIn}
use Rattle.goal_lists.specs.ProjectionLists.{standing, rigid_entries, taken_entries, value_entries, default_entries, listed_list}
use Rattle.goal_lists.specs.Settings.{Setting}

-- the first arguments, and those behind them
module _ (T : List Tree) (n : ℕ) (ids others : List TermId) where
  pub first-erased : others ≡ take n ids → erased_all T others ≡ take n (erased_all T ids)
  first-erased e = ap (erased_all T) e ∙ sym (take-map (erased_at T) n ids)

  pub first_in : others ≡ take n ids → AreIn T ids → AreIn T others
  first_in e h = subst (AreIn T) (sym e) (All-take (IsIn T) n ids h)

  pub behind-erased : others ≡ drop n ids → erased_all T others ≡ drop n (erased_all T ids)
  behind-erased e = ap (erased_all T) e ∙ sym (drop-map (erased_at T) n ids)

  pub behind_in : others ≡ drop n ids → AreIn T ids → AreIn T others
  behind_in e h = subst (AreIn T) (sym e) (All-drop (IsIn T) n ids h)

-- the arguments of another impl's header
pub other_header-made : (ks ls : List ParamKind) (xs ys us vs : List GenericArg) (n : ℕ) → ks ≡ ls → xs ≡ ys → us ≡ vs →
    arguments (of_other_header ks (trees_of xs) (trees_of us) n) ≡ arguments (of_other_header ls (trees_of ys) (trees_of vs) n)
other_header-made ks ls xs ys us vs n e f g = cc (e, f, g)

-- whose arguments a definition takes
pub from-own : (S : Setting) (r : ImplRow) (k : Container) (i : ImplId) → k ≡ container.Impl i → i.0 ≡ r.id.0 → from_impl ≡ taken S r k
unfolding taken
from-own S r k i is own = ap (λ b. if b then from_impl else from_other (impl_of S.tables i)) (sym (eq-eqb i.0 r.id.0 own)) ∙ ap (taken S r) (sym is)

pub from-another : (S : Setting) (r : ImplRow) (k : Container) (i : ImplId) (o : Option ImplRow) → k ≡ container.Impl i → (i.0 ≡ r.id.0 → ⊥) → o ≡ impl_of S.tables i →
    from_other o ≡ taken S r k
unfolding taken
from-another S r k i o is other found =
    ap from_other found ∙ ap (λ b. if b then from_impl else from_other (impl_of S.tables i)) (sym (ne_eqb i.0 r.id.0 other)) ∙ ap (taken S r) (sym is)

-- a value that isn't missing
module _ (S : Setting) (r : ImplRow) (p : Projection) (itself : Tree) (d : DefRow) (v : DefValue) where
  pub term-taken : (e : Term) → v ≡ value.Term e → taken_entries r p v (taken S r d.container) ≡ value_entries S r p itself d v
  term-taken e is = ap (λ x. taken_entries r p x (taken S r d.container)) is ∙ ap (value_entries S r p itself d) (sym is)

  pub evaluated-taken : v ≡ value.Evaluated → taken_entries r p v (taken S r d.container) ≡ value_entries S r p itself d v
  evaluated-taken is = ap (λ x. taken_entries r p x (taken S r d.container)) is ∙ ap (value_entries S r p itself d) (sym is)

-- the alias as it stands, outside coherence
pub rigid-stands : (m : TypingMode) (itself : Tree) → (m ≡ mode.Coherence → ⊥) → standing itself ≡ rigid_entries m itself
rigid-stands mode.Coherence itself other = absurd (other refl)
rigid-stands (mode.Analysis ids) itself other = refl
rigid-stands (mode.Borrowck ids) itself other = refl
rigid-stands (mode.PostBorrowckAnalysis ids) itself other = refl
rigid-stands mode.PostAnalysis itself other = refl
rigid-stands mode.ErasedNotCoherence itself other = refl

-- a default that stays hidden
pub hidden-default : (m : TypingMode) (es : List Entry) (itself : Tree) → (m ≡ mode.PostAnalysis → ⊥) → (m ≡ mode.ErasedNotCoherence → ⊥) →
    rigid_entries m itself ≡ default_entries m es itself
hidden-default mode.Coherence es itself after erased = refl
hidden-default (mode.Analysis ids) es itself after erased = refl
hidden-default (mode.Borrowck ids) es itself after erased = refl
hidden-default (mode.PostBorrowckAnalysis ids) es itself after erased = refl
hidden-default mode.PostAnalysis es itself after erased = absurd (after refl)
hidden-default mode.ErasedNotCoherence es itself after erased = absurd (erased refl)

-- what a rule lists, for the same projection
pub same-listed : (p q : Projection) (s t : Tree) (x y : Listed) → p ≡ q → s ≡ t → x ≡ y → listed_list p s x ≡ listed_list q t y
same-listed p q s t x y e f g = cc (e, f, g)
