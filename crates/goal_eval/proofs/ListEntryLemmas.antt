-- What is found of the entries of a list, said as the meaning of lists says it.
use Rattle.std.proofs.Common.{◌≡◌, ℕ, List, ◌++◌, Some, None, Option, Result, Ok, Err, inl, inr, sym, subst, ⊎_elim}
use Rattle.std.proofs.lemmas.List.Elements.{All-append}
use Rattle.std.specs.Prelude.{Vec, IfOk, map, slice_get}
use Rattle.std.specs.Global.{Global}
use Rattle.goal_terms.specs.Erased.{erased}
use Rattle.goal_terms.specs.PredicateTrees.{PredicateTree}
use Rattle.goal_terms.specs.Sorts.{IsArgument}
use Rattle.goal_terms.specs.Tree.{Tree}
use Rattle.goal_terms.specs.declared.answers.ParamKind.{ParamKind}
use Rattle.goal_terms.specs.declared.ids.OpaqueId.{OpaqueId}
use Rattle.goal_terms.specs.declared.predicates.Clause.{Clause}
use Rattle.goal_interner.specs.declared.term_nodes.TermId.{TermId}
use Rattle.goal_lists.specs.Entries.{Arguments, given_arguments, of_header, of_other_header, followed_by, ExpectedTerm, as_it_stands, head_form_of, value_under, chosen_by, Named, NamedKnown, NamesNothing, TermIs, NoTerm, hidden_type}
use Rattle.goal_lists.specs.Headers.{under, AllKnown, Fits, Clashes}
use Rattle.goal_lists.specs.HiddenTypes.{HiddenGives, HiddenRefuted}
use Rattle.goal_lists.specs.Interned.{IsIn, AreIn, erased_at, erased_all}
use Rattle.goal_lists.specs.InternedEntries.{value_tree}
use Rattle.goal_lists.specs.Laws.{IsConsistent}
use Rattle.goal_lists.specs.Level.{Level, HasHeadForm, HeadFormRefuted}
use Rattle.goal_lists.specs.Premises.{Premise, ClauseHolds, ClauseRefuted, PremisesHold, PremisesRefuted}
use Rattle.goal_lists.specs.Words.{OfRow, Pairs, SomePair}
use Rattle.goal_lists.specs.declared.lists.FirstUse.{FirstUse}
use Rattle.goal_lists.specs.declared.lists.FirstUse.TheVariants as first
use Rattle.goal_lists.specs.declared.lists.RowValueTerm.{RowValueTerm}
use Rattle.goal_lists.specs.declared.lists.RowValueTerm.TheVariants as value
use Rattle.goal_lists.proofs.SubstitutionLemmas.{one_substitution}
use Rattle.goal_eval.specs.Combined.{SaysMatched}
use Rattle.goal_eval.specs.Lists.{SaysNamed, SaysTerm, premises_of, SaysRow, chosen_term}
use Rattle.goal_eval.specs.Outcomes.{Says, SaysWhich, SaysMatch}
use Rattle.goal_eval.specs.declared.eval.lists.entries.RowPremises.{RowPremises}
use Rattle.goal_lists.specs.declared.outcomes.Outcome.{Outcome}
use Rattle.goal_lists.specs.declared.outcomes.Outcome.TheVariants as outcome
use Rattle.goal_eval.specs.declared.eval.outcomes.Found.{Found}
use Rattle.goal_eval.specs.declared.eval.outcomes.Found.TheVariants as found
use Rattle.goal_eval.specs.declared.eval.outcomes.HeaderMatch.{HeaderMatch}
use Rattle.goal_eval.specs.declared.eval.outcomes.HeaderMatch.TheVariants as match
use Rattle.goal_eval.specs.declared.eval.outcomes.Stop.{Stop}
use Rattle.goal_eval.proofs.RowTermLemmas.{type-argument, term-argument}

-- a row that is missing has no property
no_row : {A : Type 0} (P : A → Type 0) (o : Option A) → None ≡ o → OfRow o P → ⊥
unfolding OfRow
no_row P None e h = h
no_row P (Some x) e h = absurd (cc)

-- a match of a header, said of every substitution
matched-of : (L : Level) → IsConsistent L → (params : List ParamKind) (hs gs T : List Tree) (r : HeaderMatch) → SaysMatch L params hs gs T r →
    SaysMatched (Fits L params hs gs) (AllKnown L params hs gs) (Clashes L params hs gs) T r
unfolding Fits
matched-of L c params hs gs T (match.Fits s) h = h
matched-of L c params hs gs T (match.Known s) h =
    (h.0, (λ z f. h.1 (subst (Fits L params hs gs) (one_substitution L c params hs gs z (erased_all T s.items) f.0 h.0) f)), h.2)
matched-of L c params hs gs T match.Clashes h = h
matched-of L c params hs gs T match.Unknown h = h

-- arguments that an entry names
module _ (L : Level) (named : List (List Tree)) (T : List Tree) (a : Arguments) where
  -- given ones
  pub given-named : (args : List Tree) (ids : Vec TermId Global) → a ≡ given_arguments args → erased_all T ids.items ≡ args → SaysNamed L named a T (match.Fits ids)
  unfolding Named
  given-named args ids is e = subst (λ x. SaysNamed L named x T (match.Fits ids)) (sym is) e

  -- those of a row's header
  module _ (params : List ParamKind) (hs gs : List Tree) (is : a ≡ of_header params hs gs) where
    header-as : (r : HeaderMatch) → SaysMatched (Fits L params (map erased hs) gs) (AllKnown L params (map erased hs) gs) (Clashes L params (map erased hs) gs) T r →
        SaysNamed L named (of_header params hs gs) T r
    unfolding Named NamedKnown NamesNothing
    header-as (match.Fits s) h = h
    header-as (match.Known s) h = h
    header-as match.Clashes h = h
    header-as match.Unknown h = h

    pub header-named : IsConsistent L → (ts : List Tree) (r : Result HeaderMatch Stop) → ts ≡ gs → IfOk r (SaysMatch L params (map erased hs) ts T) → IfOk r (SaysNamed L named a T)
    header-named c ts (Ok m) e h =
        subst (λ x. SaysNamed L named x T m) (sym is)
        (header-as m (matched-of L c params (map erased hs) gs T m (subst (λ xs. SaysMatch L params (map erased hs) xs T m) e h)))
    header-named c ts (Err x) e h = tt

  -- those of another header
  module _ (params : List ParamKind) (hs gs : List Tree) (n : ℕ) (is : a ≡ of_other_header params hs gs n) where
    pub other-unnamed : None ≡ slice_get named n → SaysNamed L named a T match.Unknown
    unfolding NamedKnown NamesNothing
    other-unnamed e =
        subst (λ x. SaysNamed L named x T match.Unknown) (sym is) ((λ z k. no_row _ (slice_get named n) e k), (λ k. no_row _ (slice_get named n) e k))

    -- what a match says, by the arguments that are there
    SaysOther : Option (List Tree) → HeaderMatch → Type 0
    SaysOther o r =
        SaysMatched (λ s. OfRow o (λ z. Fits L params (map erased hs) (map (under z) (map erased gs)) s))
        (λ s. OfRow o (λ z. AllKnown L params (map erased hs) (map (under z) (map erased gs)) s))
        (OfRow o (λ z. Clashes L params (map erased hs) (map (under z) (map erased gs)))) T r

    other-as : (r : HeaderMatch) → SaysOther (slice_get named n) r → SaysNamed L named (of_other_header params hs gs n) T r
    unfolding SaysOther Named NamedKnown NamesNothing
    other-as (match.Fits s) h = h
    other-as (match.Known s) h = h
    other-as match.Clashes h = h
    other-as match.Unknown h = h

    other-of : (z : List Tree) (r : HeaderMatch) →
        SaysMatched (Fits L params (map erased hs) (map (under z) (map erased gs))) (AllKnown L params (map erased hs) (map (under z) (map erased gs)))
        (Clashes L params (map erased hs) (map (under z) (map erased gs))) T r → SaysOther (Some z) r
    unfolding SaysOther OfRow
    other-of z (match.Fits s) h = h
    other-of z (match.Known s) h = h
    other-of z match.Clashes h = h
    other-of z match.Unknown h = h

    pub other-named : IsConsistent L → (z ts : List Tree) (r : Result HeaderMatch Stop) → Some z ≡ slice_get named n → ts ≡ map (under z) (map erased gs) →
        IfOk r (SaysMatch L params (map erased hs) ts T) → IfOk r (SaysNamed L named a T)
    other-named c z ts (Ok m) number e h =
        subst (λ x. SaysNamed L named x T m) (sym is)
        (other-as m
        (subst (λ o. SaysOther o m) number
        (other-of z m
        (matched-of L c params (map erased hs) (map (under z) (map erased gs)) T m (subst (λ xs. SaysMatch L params (map erased hs) xs T m) e h)))))
    other-named c z ts (Err x) number e h = tt

  -- those of a number, and own ones behind them
  module _ (n : ℕ) (own : List Tree) (is : a ≡ followed_by n own) where
    pub followed-unnamed : None ≡ slice_get named n → SaysNamed L named a T match.Unknown
    unfolding NamedKnown NamesNothing
    followed-unnamed e = subst (λ x. SaysNamed L named x T match.Unknown) (sym is) ((λ z k. no_row _ (slice_get named n) e k), (λ k. k))

    pub followed-named : (z : List Tree) (ids : Vec TermId Global) → Some z ≡ slice_get named n → erased_all T ids.items ≡ z ++ own → SaysNamed L named a T (match.Fits ids)
    unfolding Named OfRow
    followed-named z ids number e =
        subst (λ x. SaysNamed L named x T (match.Fits ids)) (sym is) (subst (λ o. OfRow o (λ y. erased_all T ids.items ≡ y ++ own)) number e)

-- terms of numbers, with others behind them
pub followed-in : (U : List Tree) (xs ys zs : List TermId) → zs ≡ xs ++ ys → AreIn U xs → AreIn U ys → AreIn U zs
followed-in U xs ys zs e h i = subst (AreIn U) (sym e) (All-append (IsIn U) xs ys h i)

-- lists of terms that are compared, spelled otherwise
pub pairs-says : (L : Level) (ts us xs ys : List Tree) (o : Outcome) → ts ≡ xs → us ≡ ys → Says (Pairs L.equal ts us) (SomePair L.unequal ts us) o →
    Says (Pairs L.equal xs ys) (SomePair L.unequal xs ys) o
pairs-says L ts us xs ys o e f h =
    subst (λ ls. Says (Pairs L.equal ls ys) (SomePair L.unequal ls ys) o) e (subst (λ bs. Says (Pairs L.equal ts bs) (SomePair L.unequal ts bs) o) f h)

-- the expected term of an entry
module _ (L : Level) (named : List (List Tree)) (T : List Tree) (e : ExpectedTerm) where
  -- one as it stands, and the head form of one
  pub standing-found : (t : Tree) (id : TermId) → e ≡ as_it_stands t → erased_at T id ≡ t → SaysTerm L named e T (found.Is id)
  unfolding TermIs NoTerm
  standing-found t id is h = subst (λ d. SaysTerm L named d T (found.Is id)) (sym is) h

  head_form-as : (t : Tree) (f : Found) → SaysWhich (HasHeadForm L t) (HeadFormRefuted L t) T f → SaysTerm L named (head_form_of t) T f
  unfolding TermIs NoTerm
  head_form-as t (found.Is id) h = h
  head_form-as t found.Refuted h = h
  head_form-as t found.Undecided h = h

  pub head_form-found : (t : Tree) (r : Result Found Stop) → e ≡ head_form_of t → IfOk r (SaysWhich (HasHeadForm L t) (HeadFormRefuted L t) T) → IfOk r (SaysTerm L named e T)
  head_form-found t (Ok f) is h = subst (λ d. SaysTerm L named d T f) (sym is) (head_form-as t f h)
  head_form-found t (Err x) is h = tt

  -- a row's value under the arguments of a number
  module _ (t : Tree) (n : ℕ) (is : e ≡ value_under t n) where
    pub value-unnamed : None ≡ slice_get named n → SaysTerm L named e T found.Undecided
    unfolding TermIs NoTerm
    value-unnamed h = subst (λ d. SaysTerm L named d T found.Undecided) (sym is) ((λ u k. no_row _ (slice_get named n) h k), (λ k. no_row _ (slice_get named n) h k))

    SaysValue : Option (List Tree) → Found → Type 0
    SaysValue o f = SaysWhich (λ u. OfRow o (λ s. HasHeadForm L (under s t) u)) (OfRow o (λ s. HeadFormRefuted L (under s t))) T f

    value-of : (z : List Tree) (f : Found) → SaysWhich (HasHeadForm L (under z t)) (HeadFormRefuted L (under z t)) T f → SaysValue (Some z) f
    unfolding SaysValue OfRow
    value-of z (found.Is id) h = h
    value-of z found.Refuted h = h
    value-of z found.Undecided h = h

    value-as : (f : Found) → SaysValue (slice_get named n) f → SaysTerm L named (value_under t n) T f
    unfolding SaysValue TermIs NoTerm
    value-as (found.Is id) h = h
    value-as found.Refuted h = h
    value-as found.Undecided h = h

    pub value-found : (z : List Tree) (u : Tree) (r : Result Found Stop) → Some z ≡ slice_get named n → u ≡ t →
        IfOk r (SaysWhich (HasHeadForm L (under z u)) (HeadFormRefuted L (under z u)) T) → IfOk r (SaysTerm L named e T)
    value-found z u (Ok f) number same h =
        subst (λ d. SaysTerm L named d T f) (sym is)
        (value-as f (subst (λ o. SaysValue o f) number (value-of z f (subst (λ x. SaysWhich (HasHeadForm L (under z x)) (HeadFormRefuted L (under z x)) T f) same h))))
    value-found z u (Err x) number same h = tt

  -- one of two terms, by a clause
  chosen-as : (p : PredicateTree) (t v : Tree) (a b : TermId) → erased_at T a ≡ t → erased_at T b ≡ v → (o : Outcome) → Says (ClauseHolds L p) (ClauseRefuted L p) o →
      SaysTerm L named (chosen_by p t v) T (chosen_term o a b)
  unfolding TermIs NoTerm
  chosen-as p t v a b first second outcome.Holds h = inl (h, first)
  chosen-as p t v a b first second outcome.Refuted h = inr (h, second)
  chosen-as p t v a b first second outcome.Undecided h = ((λ u k. ⊎_elim (λ x. h.0 x.0) (λ x. h.1 x.0) k), (λ k. k))

  pub chosen-found : (p : PredicateTree) (t v : Tree) (a b : TermId) (o : Outcome) (f : Found) → e ≡ chosen_by p t v → erased_at T a ≡ t → erased_at T b ≡ v → f ≡ chosen_term o a b →
      Says (ClauseHolds L p) (ClauseRefuted L p) o → SaysTerm L named e T f
  chosen-found p t v a b o f is first second made h =
      subst (λ d. SaysTerm L named d T f) (sym is) (subst (SaysTerm L named (chosen_by p t v) T) (sym made) (chosen-as p t v a b first second o h))

  -- an opaque type that is being defined
  hidden-as : (i : OpaqueId) (args : List Tree) (u : FirstUse) (t : Tree) (bs : List Clause) (f : Found) →
      SaysWhich (HiddenGives L u args t bs) (HiddenRefuted L u args t bs) T f → SaysTerm L named (hidden_type i args u t bs) T f
  unfolding TermIs NoTerm
  hidden-as i args u t bs (found.Is id) h = h
  hidden-as i args u t bs found.Refuted h = h
  hidden-as i args u t bs found.Undecided h = h

  pub checked-found : (i : OpaqueId) (args : List Tree) (t : Tree) (bs : List Clause) (r : Result Found Stop) → e ≡ hidden_type i args first.TypeChecked t bs →
      IfOk r (SaysWhich (HiddenGives L first.TypeChecked args t bs) (HiddenRefuted L first.TypeChecked args t bs) T) → IfOk r (SaysTerm L named e T)
  checked-found i args t bs (Ok f) is h = subst (λ d. SaysTerm L named d T f) (sym is) (hidden-as i args first.TypeChecked t bs f h)
  checked-found i args t bs (Err x) is h = tt

  pub unknown-found : (i : OpaqueId) (args : List Tree) (t : Tree) (bs : List Clause) → e ≡ hidden_type i args first.Expected t bs → SaysTerm L named e T found.Undecided
  unfolding HiddenGives HiddenRefuted
  unknown-found i args t bs is =
      subst (λ d. SaysTerm L named d T found.Undecided) (sym is) (hidden-as i args first.Expected t bs found.Undecided ((λ u k. k), (λ k. k)))

-- what a row asks for, under arguments that were named or not
pub row-unnamed : (L : Level) (w : RowPremises) (o : Option (List Tree)) → o ≡ None → SaysRow L w o outcome.Undecided
row-unnamed L w o e = ((λ k. no_row _ o (sym e) k), (λ k. no_row _ o (sym e) k))

pub row-found : (L : Level) (w : RowPremises) (o : Option (List Tree)) (z : List Tree) (ps : List Premise) (r : Result Outcome Stop) → o ≡ Some z → ps ≡ premises_of w z →
    IfOk r (Says (PremisesHold L ps) (PremisesRefuted L ps)) → IfOk r (SaysRow L w o)
unfolding OfRow
row-found L w o z ps r e same h =
    subst (λ x. IfOk r (SaysRow L w x)) (sym e) (subst (λ xs. IfOk r (Says (PremisesHold L xs) (PremisesRefuted L xs))) same h)

-- a row's value is a type or a constant
pub value-argument : (v : RowValueTerm) → IsArgument (value_tree v)
value-argument (value.Term t) = term-argument t.now
value-argument (value.Ty ty) = type-argument ty.now
