-- The terms that impls give above a level they give above another, in an alike setting, if all goals of the one level are of the other.
use Rattle.std.proofs.Common.{◌≡◌, ◌==◌, ◌&&◌, not, inl, inr, true, false, List, Option, Some, None, Vec, Global, refl, sym, ap, subst, if◌then◌else◌, ◌∙◌}
use Rattle.goal_terms.specs.Tree.{Tree}
use Rattle.goal_terms.specs.declared.modes.TypingMode.{TypingMode}
use Rattle.goal_tables.specs.Rows.{source_of, definition_of}
use Rattle.goal_tables.specs.declared.rows.Container.{Container}
use Rattle.goal_tables.specs.declared.rows.Container.TheVariants as container
use Rattle.goal_tables.specs.declared.rows.DefRow.{DefRow}
use Rattle.goal_tables.specs.declared.rows.DefValue.{DefValue}
use Rattle.goal_tables.specs.declared.rows.DefValue.TheVariants as value
use Rattle.goal_tables.specs.declared.rows.ImplRow.{ImplRow}
use Rattle.goal_tables.specs.declared.rows.ItemRow.{ItemRow}
use Rattle.goal_tables.specs.declared.rows.Source.{Source}
use Rattle.goal_tables.specs.declared.rows.Source.TheVariants as source
use Rattle.goal_tables.specs.declared.rows.SourceRow.{SourceRow}
use Rattle.goal_lists.specs.Headers.{under}
use Rattle.goal_lists.specs.ImplTerms.{Said, an_error, the_alias, a_value, evaluated, not_said, said_by_definition, said_by_source, said_by_row, said, Projection, trait_args, own_args, header_under, OtherImplHolds, OtherImplKnown, OtherImplRefuted, Taken, from_projection, from_impl, from_other, taken, Translated, KnownTranslated, TranslationRefuted, SaidGives, SaidRefuted, own_clauses, ImplGives, ImplTermRefuted, said_by_value, the_alias_unless}
use Rattle.goal_lists.specs.Laws.{IsWithin, IsAlike, with_impls_and_mode}
use Rattle.goal_lists.specs.Level.{Level}
use Rattle.goal_lists.specs.Premises.{clauses_under}
use Rattle.goal_lists.specs.Settings.{Setting, takes_defaults, hides_defaults}
use Rattle.goal_lists.specs.TraitGoals.{header_of}
use Rattle.goal_lists.proofs.WithinGoals.{within-impl_holds_under, within-impl_refuted}
use Rattle.goal_lists.proofs.WithinHeaders.{within-fits, within-clashes, within-all_known}
use Rattle.goal_lists.proofs.WithinPremises.{within-premises_hold, within-premises_refuted}
use Rattle.goal_lists.proofs.WithinTerms.{within-has_head_form, within-head_form_refuted}
use Rattle.goal_lists.proofs.WithinWords.{of_row-map, sum-map}

-- what a default says, where the modes agree on whether it is taken
alike-said_by_value : {S : Setting} {v : Vec ImplRow Global} {m : TypingMode} → IsAlike S v m → (r : ImplRow) (d : DefRow) (x : DefValue) →
    said_by_value m r d x ≡ said_by_value S.mode r d x
alike-said_by_value a r d value.Missing = ap (λ b. if r.guaranteed_unsized then the_alias_unless b else an_error d.id.0) a.same_coherence
alike-said_by_value a r d (value.Term e) = refl
alike-said_by_value a r d value.Evaluated = refl

alike-said_by_definition : {S : Setting} {v : Vec ImplRow Global} {m : TypingMode} → IsAlike S v m → (r : ImplRow) (o : Option DefRow) →
    said_by_definition m r o ≡ said_by_definition S.mode r o
alike-said_by_definition a r None = refl
alike-said_by_definition a r (Some d) = alike-said_by_value a r d d.value

alike-said_by_source : {S : Setting} {v : Vec ImplRow Global} {m : TypingMode} → IsAlike S v m → (r : ImplRow) (item : ItemRow) (q : SourceRow) →
    source_of S.tables r.id item.id ≡ Some q → (x : Source) → q.source ≡ x → said_by_source (with_impls_and_mode S v m) r x ≡ said_by_source S r x
alike-said_by_source a r item q found (source.Broken n) e = refl
alike-said_by_source {S} a r item q found (source.Def d false) e = alike-said_by_definition a r (definition_of S.tables d)
alike-said_by_source {S} {m = m} a r item q found (source.Def d true) e =
    ap (λ b. if true && not b then the_alias_unless (hides_defaults m) else said_by_definition m r (definition_of S.tables d)) (a.same_defaults r.id item.id q d found e)
    ∙ ap (λ b. if true && not (takes_defaults S.mode) then the_alias_unless b else said_by_definition m r (definition_of S.tables d)) (a.same_hidden_defaults r.id item.id q d found e)
    ∙ ap (λ x. if true && not (takes_defaults S.mode) then the_alias_unless (hides_defaults S.mode) else x) (alike-said_by_definition a r (definition_of S.tables d))

alike-said_by_row : {S : Setting} {v : Vec ImplRow Global} {m : TypingMode} → IsAlike S v m → (r : ImplRow) (item : ItemRow) (o : Option SourceRow) →
    source_of S.tables r.id item.id ≡ o → said_by_row (with_impls_and_mode S v m) r o ≡ said_by_row S r o
alike-said_by_row a r item None found = refl
alike-said_by_row a r item (Some q) found = alike-said_by_source a r item q found q.source refl

-- what an impl says of an item is the same in an alike setting
pub alike-said : {S : Setting} {v : Vec ImplRow Global} {m : TypingMode} → IsAlike S v m → (r : ImplRow) (item : ItemRow) →
    said (with_impls_and_mode S v m) r item ≡ said S r item
unfolding said
alike-said {S} a r item = alike-said_by_row a r item (source_of S.tables r.id item.id) refl

-- and so is whose arguments a definition takes
pub alike-taken : {S : Setting} {v : Vec ImplRow Global} {m : TypingMode} → IsAlike S v m → (r : ImplRow) (c : Container) →
    taken (with_impls_and_mode S v m) r c ≡ taken S r c
unfolding taken
alike-taken a r (container.Trait i) = refl
alike-taken a r (container.Impl i) = ap (λ o. if i.0 == r.id.0 then from_impl else from_other o) (a.same_impl i)

-- another impl's arguments for a header
within-other_impl_holds : {L M : Level} → IsWithin L M → (header own args : List Tree) (q : ImplRow) →
    OtherImplHolds L header own args q → OtherImplHolds M header own args q
unfolding OtherImplHolds
within-other_impl_holds w header own args q h =
    (h.0, within-fits w q.params.items (header_of q) header h.0 h.1, within-premises_hold w (clauses_under h.0 q.predicates.items) h.2, h.3)

within-other_impl_known : {L M : Level} → IsWithin L M → (header own args : List Tree) (q : ImplRow) →
    OtherImplKnown L header own args q → OtherImplKnown M header own args q
unfolding OtherImplKnown
within-other_impl_known w header own args q h = (h.0, within-all_known w q.params.items (header_of q) header h.0 h.1, h.2)

within-other_impl_refuted : {L M : Level} → IsWithin L M → (header : List Tree) (q : ImplRow) → OtherImplRefuted L header q → OtherImplRefuted M header q
unfolding OtherImplRefuted
within-other_impl_refuted w header q (inl h) = inl (within-clashes w q.params.items (header_of q) header h)
within-other_impl_refuted w header q (inr h) =
    inr (h.0, within-all_known w q.params.items (header_of q) header h.0 h.1, within-premises_refuted w (clauses_under h.0 q.predicates.items) h.2)

-- the arguments for a definition
within-translated : {L M : Level} → IsWithin L M → (r : ImplRow) (s : List Tree) (p : Projection) (t : Taken) (args : List Tree) →
    Translated L r s p t args → Translated M r s p t args
unfolding Translated
within-translated w r s p from_projection args h = h
within-translated w r s p from_impl args h = h
within-translated w r s p (from_other q) args h = of_row-map q (within-other_impl_holds w (header_under r s) (own_args p) args) h

within-known_translated : {L M : Level} → IsWithin L M → (r : ImplRow) (s : List Tree) (p : Projection) (t : Taken) (args : List Tree) →
    KnownTranslated L r s p t args → KnownTranslated M r s p t args
unfolding KnownTranslated
within-known_translated w r s p from_projection args h = h
within-known_translated w r s p from_impl args h = h
within-known_translated w r s p (from_other q) args h = of_row-map q (within-other_impl_known w (header_under r s) (own_args p) args) h

within-translation_refuted : {L M : Level} → IsWithin L M → (r : ImplRow) (s : List Tree) (t : Taken) → TranslationRefuted L r s t → TranslationRefuted M r s t
unfolding TranslationRefuted
within-translation_refuted w r s from_projection h = h
within-translation_refuted w r s from_impl h = h
within-translation_refuted w r s (from_other q) h = of_row-map q (within-other_impl_refuted w (header_under r s)) h

-- what an impl says gives a term, or none
within-said_gives : {L M : Level} {S : Setting} {v : Vec ImplRow Global} {m : TypingMode} → IsWithin L M → IsAlike S v m →
    (r : ImplRow) (s : List Tree) (p : Projection) (itself : Tree) (x : Said) (u : Tree) →
    SaidGives S L r s p itself x u → SaidGives (with_impls_and_mode S v m) M r s p itself x u
unfolding SaidGives
within-said_gives w a r s p itself (an_error n) u h = h
within-said_gives w a r s p itself the_alias u h = h
within-said_gives {M = M} {S = S} w a r s p itself (a_value c t) u h = (
  h.0,
  subst (λ x. Translated M r s p x h.0) (sym (alike-taken a r c)) (within-translated w r s p (taken S r c) h.0 h.1),
  within-has_head_form w (under h.0 t) u h.2,
)
within-said_gives w a r s p itself (evaluated c) u h = h
within-said_gives w a r s p itself not_said u h = h

within-said_refuted : {L M : Level} {S : Setting} {v : Vec ImplRow Global} {m : TypingMode} → IsWithin L M → IsAlike S v m →
    (r : ImplRow) (s : List Tree) (p : Projection) (x : Said) → SaidRefuted S L r s p x → SaidRefuted (with_impls_and_mode S v m) M r s p x
unfolding SaidRefuted
within-said_refuted w a r s p (an_error n) h = h
within-said_refuted w a r s p the_alias h = h
within-said_refuted {M = M} {S = S} w a r s p (a_value c t) (inl h) =
    inl (subst (TranslationRefuted M r s) (sym (alike-taken a r c)) (within-translation_refuted w r s (taken S r c) h))
within-said_refuted {M = M} {S = S} w a r s p (a_value c t) (inr h) = inr (
  h.0,
  subst (λ x. KnownTranslated M r s p x h.0) (sym (alike-taken a r c)) (within-known_translated w r s p (taken S r c) h.0 h.1),
  within-head_form_refuted w (under h.0 t) h.2,
)
within-said_refuted {M = M} {S = S} w a r s p (evaluated c) h =
    subst (TranslationRefuted M r s) (sym (alike-taken a r c)) (within-translation_refuted w r s (taken S r c) h)
within-said_refuted w a r s p not_said h = h

-- an impl gives a projection's term, or none
pub within-impl_gives : {L M : Level} {S : Setting} {v : Vec ImplRow Global} {m : TypingMode} → IsWithin L M → IsAlike S v m →
    (p : Projection) (itself : Tree) (r : ImplRow) (u : Tree) → ImplGives S L p itself r u → ImplGives (with_impls_and_mode S v m) M p itself r u
unfolding ImplGives
within-impl_gives {M = M} {S = S} {v} {m} w a p itself r u h = (
  h.0,
  within-impl_holds_under w r (trait_args p) h.0 h.1,
  within-premises_hold w (own_clauses p) h.2,
  subst (λ x. SaidGives (with_impls_and_mode S v m) M r h.0 p itself x u) (sym (alike-said a r p.item)) (within-said_gives w a r h.0 p itself (said S r p.item) u h.3),
)

pub within-impl_term_refuted : {L M : Level} {S : Setting} {v : Vec ImplRow Global} {m : TypingMode} → IsWithin L M → IsAlike S v m →
    (p : Projection) (r : ImplRow) → ImplTermRefuted S L p r → ImplTermRefuted (with_impls_and_mode S v m) M p r
unfolding ImplTermRefuted
within-impl_term_refuted {S = S} {m = m} w a p r (inl h) = inl (within-impl_refuted w S.mode m a.same_coherence (trait_args p) r h)
within-impl_term_refuted {M = M} {S = S} {v} {m} w a p r (inr h) = inr (
  h.0,
  within-all_known w r.params.items (header_of r) (trait_args p) h.0 h.1,
  sum-map (within-premises_refuted w (own_clauses p))
      (λ k. subst (SaidRefuted (with_impls_and_mode S v m) M r h.0 p) (sym (alike-said a r p.item)) (within-said_refuted w a r h.0 p (said S r p.item) k)) h.2,
)
