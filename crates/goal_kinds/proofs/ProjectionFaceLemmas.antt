-- The rules of projections say what the lists of their candidates do.
use Rattle.std.proofs.Common.{◌≡◌, ◌⊎◌, ◌↔◌, ℕ, suc, Bool, true, false, List, [], ◌∷◌, ◌++◌, Option, Some, None, Result, Ok, Err, IfOk, IfErr, IfSome, inl, inr, refl, sym, ◌∙◌, ap, ap₂, subst, ⊎_elim}
use Rattle.std.specs.Prelude.{◌&&◌, if◌then◌else◌}
use Rattle.std.proofs.lemmas.Bool.{eqb-true}
use Rattle.goal_terms.specs.Erased.{erased}
use Rattle.goal_terms.specs.PredicateTrees.{PredicateTree, holds, equals, holds_const, tree_of_kind}
use Rattle.goal_terms.specs.Tree.{Tree, node, alias, variable, forest, list_of}
use Rattle.goal_terms.specs.TreeOf.{tree_of_term}
use Rattle.goal_terms.specs.declared.answers.Certainty.{Certainty}
use Rattle.goal_terms.specs.declared.answers.Certainty.TheVariants as certainty
use Rattle.goal_terms.specs.declared.ids.ItemId.{ItemId}
use Rattle.goal_terms.specs.declared.modes.TypingMode.{TypingMode}
use Rattle.goal_terms.specs.declared.predicates.Clause.{Clause}
use Rattle.goal_terms.specs.declared.predicates.ClauseKind.{ClauseKind}
use Rattle.goal_terms.specs.declared.predicates.ClauseKind.TheVariants as clauses
use Rattle.goal_terms.specs.declared.predicates.ProjectionPredicate.{ProjectionPredicate}
use Rattle.goal_terms.specs.declared.terms.AliasTerm.{AliasTerm}
use Rattle.goal_terms.specs.declared.terms.AliasTermKind.{AliasTermKind}
use Rattle.goal_terms.specs.declared.terms.AliasTermKind.TheVariants.{ProjectionTy, ProjectionConst}
use Rattle.goal_tables.specs.declared.rows.ImplRow.{ImplRow}
use Rattle.goal_tables.specs.declared.rows.Tables.{Tables}
use Rattle.goal_lists.specs.Answers.{setting_of, erased_predicate}
use Rattle.goal_kinds.specs.CandidateRules.{GivesAs, RefutedAs, IsRefusal, IsNamedAnswer, said_by, only_given}
use Rattle.goal_lists.specs.Candidates.{Candidate, by_impl, built_in}
use Rattle.goal_lists.specs.Entries.{Entry, arguments, given_arguments, row_clauses, evaluation, refused, EntriesHold, EntriesRefuted, ListHolds, ListGives, ListRefuted}
use Rattle.goal_lists.specs.ImplTerms.{Projection, trait_args}
use Rattle.goal_lists.specs.InternedEntries.{setting_at}
use Rattle.goal_lists.specs.Levels.{level}
use Rattle.goal_kinds.specs.ProjectionKind.{ProjectionCandidateGives, ProjectionCandidateRefuted, same_kind_of_alias, may_match_term, refuses_term, list_for, asked_projection_list}
use Rattle.goal_lists.specs.ProjectionLists.{is_item, same_item_list, equation_clause_list, projection_assumption_list, said_entries, projection_list, equation_list}
use Rattle.goal_lists.specs.Projections.{projected_item, CandidateGives, TermRefuted}
use Rattle.goal_kinds.specs.RuleLists.{entries_then, list_then, IsListed, IsToldBy}
use Rattle.goal_lists.specs.NamedRows.{IsSorted}
use Rattle.goal_kinds.specs.Rules.{RuleHolds, RuleRefuted}
use Rattle.goal_lists.specs.RowWords.{given}
use Rattle.goal_kinds.specs.RuleWords.{projection_in, asked_by}
use Rattle.goal_lists.specs.Settings.{Setting}
use Rattle.goal_lists.specs.TraitLists.{impl_match}
use Rattle.goal_lists.specs.Words.{OfRow, Each}
use Rattle.goal_kinds.specs.declared.faults.Fault.{Fault}
use Rattle.goal_kinds.specs.declared.faults.Fault.TheVariants as fault
use Rattle.goal_lists.specs.declared.lists.ListSetting.{ListSetting}
use Rattle.goal_kinds.specs.declared.rules.Rule.{Rule}
use Rattle.goal_kinds.specs.declared.rules.assoc_items.AssocItem.{AssocItem}
use Rattle.goal_lists.proofs.EntryLemmas.{iff-chain, iff-back, iff-same}
use Rattle.goal_kinds.proofs.FaceLemmas.{IsSomeGiven, some-given, listed-yes, listed-yes_back, face-gives, face-refuted, face-told, face-named}
use Rattle.goal_kinds.proofs.ImplTermKindLemmas.{alias-erased}
use Rattle.goal_kinds.proofs.ListedRules.{AreGiven, listed-list, some-accepted}
use Rattle.goal_kinds.proofs.ProjectionKindLaws.{asked-of, found-item}
use Rattle.goal_lists.proofs.ProjectionLists.{item-tested, projection_list-gives, projection_list-refuted, equation_list-holds, equation_list-refuted}
use Rattle.goal_kinds.proofs.RulesAsLists.{rule_list-holds, rule_list-refuted}
use Rattle.goal_kinds.proofs.TraitFaceLemmas.{or-false, polarity-some}

-- the list of a candidate says what it does, by whether the item of the projection has rows
module _ (S : Setting) (n : ℕ) (itself : Tree) (c : Candidate) where
  list_for-gives : (o : Option Projection) (u : Tree) →
      ListGives (level S n) (list_for o (λ p. projection_list S p itself c)) u ↔ OfRow o (λ p. CandidateGives S (level S n) p itself u c)
  unfolding OfRow ListGives EntriesHold
  list_for-gives None u = iff-same
  list_for-gives (Some p) u = projection_list-gives S (level S n) p itself c u

  list_for-refuted : (o : Option Projection) →
      ListRefuted (level S n) (list_for o (λ p. projection_list S p itself c)) ↔ IfSome o (λ p. TermRefuted S (level S n) p c)
  unfolding ListRefuted EntriesRefuted
  list_for-refuted None = (λ h. tt, λ h. tt)
  list_for-refuted (Some p) = projection_list-refuted S (level S n) p itself c

-- rules that are listed for a projection
module _ (S : ListSetting) (t : Tables) (m : TypingMode) (env : List Clause) (a : AliasTerm) (c : Candidate) (rows : S.rows.now ≡ t) (mode : S.mode.now ≡ m) where
  abbrev asked : Setting → Option (List Entry)
  asked V = asked_projection_list a V c

  abbrev Gives : Setting → ℕ → Tree → Type 0
  Gives V n u = ProjectionCandidateGives a V n c u

  abbrev Refuted : Setting → ℕ → Type 0
  Refuted V n = ProjectionCandidateRefuted a V n c

  made-gives : (n : ℕ) (u : Tree) → ListGives (level (setting_at S env) n) (asked (setting_at S env)) u ↔ Gives (setting_at S env) n u
  made-gives n u =
      list_for-gives (setting_at S env) n (alias a.kind (forest (given a.args))) c
      (projection_in S.rows.now a) u

  made-refuted : (n : ℕ) → ListRefuted (level (setting_at S env) n) (asked (setting_at S env)) ↔ Refuted (setting_at S env) n
  made-refuted n =
      list_for-refuted (setting_at S env) n (alias a.kind (forest (given a.args))) c
      (projection_in S.rows.now a)

  -- a rule whose entries are those of the list
  abbrev ListedThen : Certainty → Result Rule Fault → Type 0
  ListedThen sure r = IfOk r (λ x. IsListed S.rows.now x (list_then sure (asked (setting_at S env))))

  abbrev Listed : Result Rule Fault → Type 0
  Listed r = IfOk r (λ x. IsListed S.rows.now x (asked (setting_at S env)))

  pub projection-gives : (sure : Certainty) (r : Result Rule Fault) → ListedThen sure r →
      IfOk r (GivesAs true (setting_of t m env) sure (λ n u. ProjectionCandidateGives a (setting_of t m env) n c u))
  projection-gives sure r h = face-gives true asked Gives Refuted S t m env rows mode sure r made-gives h

  pub projection-refuted : (sure : Certainty) (r : Result Rule Fault) → ListedThen sure r →
      IfOk r (RefutedAs (setting_of t m env) (λ n. ProjectionCandidateRefuted a (setting_of t m env) n c))
  projection-refuted sure r h = face-refuted true asked Gives Refuted S t m env rows mode sure r made-refuted h

  pub projection-told : (sure : Certainty) (r : Result Rule Fault) → ListedThen sure r → IfOk r (IsToldBy t sure (Some (asked_projection_list a (setting_of t m env) c)))
  projection-told sure r h = face-told true asked Gives Refuted S t m env rows mode sure r h

  -- the same where nothing is left undecided behind the list
  pub sure_projection-told : (r : Result Rule Fault) → Listed r → IfOk r (IsToldBy t certainty.Yes (Some (asked_projection_list a (setting_of t m env) c)))
  sure_projection-told r h = projection-told certainty.Yes r (listed-yes_back S.rows.now (asked (setting_at S env)) r h)

  pub projection-named : (b : Bool) (r : Result Rule Fault) → (b ≡ false → r ≡ Err fault.NotForThisKind) → Listed r →
      (b ≡ true → IfErr r (IsRefusal (asked (setting_at S env) ≡ None))) →
      IsNamedAnswer b true (setting_of t m env) (λ n u. ProjectionCandidateGives a (setting_of t m env) n c u) (λ n. ProjectionCandidateRefuted a (setting_of t m env) n c) r
  projection-named b r other listed refused_as = face-named true asked Gives Refuted S t m env rows mode b r made-gives made-refuted other listed refused_as

-- the answer of a function of a built-in rule, by the test that it makes
pub projection-answer : (S : ListSetting) (t : Tables) (m : TypingMode) (env : List Clause) (a : AliasTerm) → S.rows.now ≡ t → S.mode.now ≡ m →
    (tested b : Bool) (r : Result Rule Fault) → tested ≡ b → (tested ≡ false → r ≡ Err fault.NotForThisKind) →
    IfOk r (λ x. IsListed S.rows.now x (asked_projection_list a (setting_at S env) built_in)) →
    (tested ≡ true → IfErr r (IsRefusal (asked_projection_list a (setting_at S env) built_in ≡ None))) →
    IsNamedAnswer b true (setting_of t m env) (λ n u. ProjectionCandidateGives a (setting_of t m env) n built_in u) (λ n. ProjectionCandidateRefuted a (setting_of t m env) n built_in) r
projection-answer S t m env a rows mode tested b r same other listed refused_as =
    projection-named S t m env a built_in rows mode b r (λ e. other (same ∙ e)) listed (λ e. refused_as (same ∙ e))

-- the list that is made for an alias, by numbers that stand for it
pub same-asked : (x : AssocItem) (a : AliasTerm) (ts : List Tree) → ts ≡ given a.args → record { item = x.row.now; trait_params = x.trait_params; args = ts } ≡ asked_by x a
same-asked x a ts e = ap (λ us. record { item = x.row.now; trait_params = x.trait_params; args = us }) e

pub asked-made : (a : AliasTerm) (S : Setting) (x : AssocItem) (q : Projection) (itself : Tree) (d c : Candidate) → projection_in S.tables a ≡ Some (asked_by x a) →
    q ≡ asked_by x a → itself ≡ alias a.kind (forest (given a.args)) → d ≡ c → projection_list S q itself d ≡ asked_projection_list a S c
asked-made a S x q itself d c found same_projection same_alias same_candidate =
    ap (λ p. projection_list S p itself d) same_projection ∙ ap (λ u. projection_list S (asked_by x a) u d) same_alias
    ∙ ap (projection_list S (asked_by x a) (alias a.kind (forest (given a.args)))) same_candidate
    ∙ sym (ap (λ o. list_for o (λ p. projection_list S p (alias a.kind (forest (given a.args))) c)) found)

-- a list is refused, or names only given arguments
abbrev IsNoneOrGiven : Option (List Entry) → Type 0
IsNoneOrGiven o = (o ≡ None) ⊎ IsSomeGiven o

refused-given : (c : Certainty) → AreGiven (refused ∷ entries_then c)
unfolding AreGiven
refused-given certainty.Yes = (tt, tt)
refused-given certainty.Maybe = (tt, (tt, tt))

same-given : (p : Projection) (bs : List Tree) (v : Tree) (c : Certainty) → AreGiven (same_item_list p bs v ++ entries_then c)
unfolding AreGiven
same-given p bs v certainty.Yes = (tt, (tt, (tt, (tt, tt))))
same-given p bs v certainty.Maybe = (tt, (tt, (tt, (tt, (tt, tt)))))

tested-given : (p : Projection) (b : Bool) (bs : List Tree) (v : Tree) → IsNoneOrGiven (if b then Some (same_item_list p bs v) else None)
tested-given p true bs v = inr (same_item_list p bs v, refl, same-given p bs v)
tested-given p false bs v = inl refl

equation-given : (p : Projection) (a v : Tree) → IsNoneOrGiven (equation_clause_list p a v)
unfolding equation_clause_list
equation-given p (alias k bs) v = tested-given p (is_item p.item.id (projected_item k)) (list_of bs) v
equation-given p (node h bs) v = inl refl
equation-given p (variable x) v = inl refl

assumption-given : (p : Projection) (q : PredicateTree) → IsNoneOrGiven (projection_assumption_list p q)
unfolding projection_assumption_list
assumption-given p (equals a v) = equation-given p a v
assumption-given p (holds i ts) = inl refl
assumption-given p (holds_const c i ts) = inl refl

said-given : (S : Setting) (itself : Tree) (k : ClauseKind) (o : Option Projection) → IsNoneOrGiven (list_for o (λ p. projection_list S p itself (said_by k)))
unfolding projection_list
said-given S itself k None = inr (refused ∷ [], refl, refused-given)
said-given S itself k (Some p) = assumption-given p (erased_predicate (tree_of_kind k))

none-given : (t : Tables) (c : Certainty) (o : Option (List Entry)) (r : Result Rule Fault) → o ≡ None → IfOk r (λ x. IsListed t x (list_then c o)) →
    IfOk r (λ x. only_given x.entries.items ≡ true)
none-given t c o (Ok x) e h = absurd (subst (λ l. IsListed t x (list_then c l)) e h)
none-given t c o (Err f) e h = tt

pub projection_said-given : (t : Tables) (S : Setting) (a : AliasTerm) (k : ClauseKind) (c : Certainty) (r : Result Rule Fault) →
    IfOk r (λ x. IsListed t x (list_then c (asked_projection_list a S (said_by k)))) → IfOk r (λ x. only_given x.entries.items ≡ true)
projection_said-given t S a k c r h =
    ⊎_elim (λ e. none-given t c (asked_projection_list a S (said_by k)) r e h) (λ some. some-given t c (asked_projection_list a S (said_by k)) r some h)
    (said-given S (alias a.kind (forest (given a.args))) k (projection_in S.tables a))

-- an alias of the same kind is of the same item
same-item : (i : ItemId) (k j : AliasTermKind) → same_kind_of_alias k j ≡ true → projected_item j ≡ Some i → projected_item k ≡ Some i
same-item i (ProjectionTy m) (ProjectionTy n) e f = ap (λ x. Some (record { 0 = x })) (eqb-true m.0 n.0 e) ∙ f
same-item i (ProjectionConst m) (ProjectionConst n) e f = ap (λ x. Some (record { 0 = x })) (eqb-true m.0 n.0 e) ∙ f
same-item i k (ProjectionTy n) e f = absurd (cc)
same-item i k (ProjectionConst n) e f = absurd (cc)
same-item i k j e f = absurd (cc)

first-true : (a b : Bool) → a && b ≡ true → a ≡ true
first-true true b e = refl
first-true false b e = e

-- the list of a clause that the fast rejection lets pass isn't refused
passed-some : (S : Setting) (a : AliasTerm) (q : ProjectionPredicate) (p : Projection) → projection_in S.tables a ≡ Some p → same_kind_of_alias q.projection_term.kind a.kind ≡ true →
    (es : List Entry) × (projection_assumption_list p (erased_predicate (tree_of_kind (clauses.Projection q))) ≡ Some es)
unfolding projection_assumption_list equation_clause_list
passed-some S a q p e same =
    let its = asked-of S.tables a p e in
    let of_item = same-item its.0 q.projection_term.kind a.kind same its.1 ∙ ap Some (sym (found-item S.tables its.0 p.item its.2)) in
    let ts = given q.projection_term.args in (
      same_item_list p (list_of (forest ts)) (erased (tree_of_term q.term)),
      ap (λ u. equation_clause_list p u (erased (tree_of_term q.term))) (alias-erased q.projection_term)
          ∙ ap (λ b. if b then Some (same_item_list p (list_of (forest ts)) (erased (tree_of_term q.term))) else None) ((item-tested p.item.id (projected_item q.projection_term.kind)).1 of_item),
    )

said-some : (S : Setting) (a : AliasTerm) (q : ProjectionPredicate) (itself : Tree) (o : Option Projection) → projection_in S.tables a ≡ o →
    same_kind_of_alias q.projection_term.kind a.kind ≡ true → (es : List Entry) × (list_for o (λ p. projection_list S p itself (said_by (clauses.Projection q))) ≡ Some es)
unfolding projection_list
said-some S a q itself None d e = (refused ∷ [], refl)
said-some S a q itself (Some p) d e = passed-some S a q p d e

pub projection_said-accepted : (S : Setting) (a : AliasTerm) (k : ClauseKind) (r : Result Rule Fault) → may_match_term a k ≡ true →
    IfErr r (IsRefusal (asked_projection_list a S (said_by k) ≡ None)) → IfErr r (λ f. f ≡ fault.OutOfMemory)
projection_said-accepted S a (clauses.Projection q) r e h =
    let some = said-some S a q (alias a.kind (forest (given a.args))) (projection_in S.tables a) refl (first-true _ _ e) in
    some-accepted some.0 (asked_projection_list a S (said_by (clauses.Projection q))) r some.1 h
projection_said-accepted S a (clauses.Trait q) r e h = absurd (cc)
projection_said-accepted S a (clauses.HostEffect q) r e h = absurd (cc)

-- an impl that isn't refused before its list is made has one
impl-some : (S : Setting) (m : TypingMode) (a : AliasTerm) (itself : Tree) (r : ImplRow) (o : Option Projection) → S.mode ≡ m → refuses_term m a o (Some r) ≡ false →
    (es : List Entry) × (list_for o (λ p. projection_list S p itself (by_impl r)) ≡ Some es)
unfolding projection_list
impl-some S m a itself r None mode e = absurd (cc)
impl-some S m a itself r (Some p) mode e =
    polarity-some S.mode r.polarity
    (impl_match r (trait_args p) (evaluation ∷ arguments (given_arguments p.args) ∷ row_clauses p.item.own_predicates.items 1 ∷ said_entries S r p itself))
    (or-false _ _ (ap (λ k. refuses_term k a (Some p) (Some r)) mode ∙ e))

pub term_impl-accepted : (S : Setting) (m : TypingMode) (a : AliasTerm) (o : Option ImplRow) (r : ImplRow) (x : Result Rule Fault) → Some r ≡ o → S.mode ≡ m →
    refuses_term m a (projection_in S.tables a) o ≡ false → IfErr x (IsRefusal (asked_projection_list a S (by_impl r) ≡ None)) → IfErr x (λ f. f ≡ fault.OutOfMemory)
term_impl-accepted S m a o r x seen mode e h =
    let some = impl-some S m a (alias a.kind (forest (given a.args))) r (projection_in S.tables a) mode (ap (refuses_term m a (projection_in S.tables a)) seen ∙ e) in
    some-accepted some.0 (asked_projection_list a S (by_impl r)) x some.1 h

-- the rule of a projection goal is its list, whatever the tables
pub equation_rule-listed : (t : Tables) (a b x y : Tree) (es : List Entry) (r : Result Rule Fault) → es ≡ equation_list a b → a ≡ x → b ≡ y →
    IfOk r (λ z. IsListed t z (list_then certainty.Yes (Some es))) → IfOk r (λ z. IsListed t z (Some (equation_list x y)))
equation_rule-listed t a b x y es r made e f h = subst (λ l. IfOk r (λ z. IsListed t z (Some l))) (made ∙ ap₂ equation_list e f) (listed-yes t (Some es) r h)

pub equation_rule-sorted : (a b : Tree) (es : List Entry) → es ≡ equation_list a b → Each IsSorted es
unfolding Each
equation_rule-sorted a b es made = subst (Each IsSorted) (sym made) (tt, tt)

-- and says what the goal does
module _ (S : Setting) (n : ℕ) (x y : Tree) (r : Rule) (listed : IsListed S.tables r (Some (equation_list x y))) where
  pub equation_rule-holds : RuleHolds S (level S n) r ↔ (level S (suc n)).equation_holds x y
  equation_rule-holds =
      iff-chain (iff-back (rule_list-holds S (level S n) r))
      (subst (λ l. ListHolds (level S n) l ↔ (level S (suc n)).equation_holds x y) (sym (listed-list S.tables r (Some (equation_list x y)) listed)) (equation_list-holds S n x y))

  pub equation_rule-refuted : RuleRefuted S (level S n) r ↔ (level S (suc n)).equation_refuted x y
  equation_rule-refuted =
      iff-chain (iff-back (rule_list-refuted S (level S n) r))
      (subst (λ l. ListRefuted (level S n) l ↔ (level S (suc n)).equation_refuted x y) (sym (listed-list S.tables r (Some (equation_list x y)) listed)) (equation_list-refuted S n x y))
