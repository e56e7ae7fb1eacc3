-- What terms come to that may hold inference variables.
use Rattle.std.proofs.Common.{◌≡◌, ◌≢◌, ◌↔◌, ◌⊎◌, inl, inr, ℕ, zero, suc, ◌+◌, ◌<◌, ◌≤◌, Bool, true, false, ◌||◌, List, [], ◌∷◌, ◌++◌, length, map, take, get_or, refl, sym, ap, ap₂, ◌∙◌, subst, ⊎_elim, arith}
use Rattle.std.specs.Prelude.{IfOk, IfErr, IsErrAnd, Result, Ok, Err}
use Rattle.std.specs.List.{list_any}
use Rattle.std.proofs.lemmas.List.{length-map, length-take, take_all, take_more, take-map, map-append, get_or-map}
use Rattle.goal_terms.specs.NodeTests.{some_node, some_in_row, is_any_infer}
use Rattle.goal_terms.specs.Erased.{erased}
use Rattle.goal_interner.specs.TableMeaning.{tree_at, Keeps}
use Rattle.goal_terms.specs.Tree.{Tree, Trees, node, alias, variable, none, more, node_of, parts_of, list_of}
use Rattle.goal_terms.specs.declared.heads.Head.{Head}
use Rattle.goal_terms.specs.declared.heads.Node.TheVariants as nodes
use Rattle.goal_terms.specs.declared.heads.Variable.{Variable}
use Rattle.goal_terms.specs.declared.modes.TypingMode.{TypingMode}
use Rattle.goal_terms.specs.declared.modes.TypingMode.TheVariants as mode
use Rattle.goal_interner.specs.declared.term_nodes.TermId.{TermId}
use Rattle.goal_infer.specs.ListUnification.{AllClosed}
use Rattle.goal_infer.specs.Replacement.{replaced, replaced_row}
use Rattle.goal_infer.specs.Unification.{IsClosed}
use Rattle.goal_lists.specs.Equality.{Equal, Unequal, EqualByForm, UnequalByForm, RowEqual, RowUnequal}
use Rattle.goal_lists.specs.Interned.{erased_at, erased_all}
use Rattle.goal_lists.specs.Level.{nothing, HasHeadForm, HeadFormRefuted}
use Rattle.goal_lists.specs.Levels.{level}
use Rattle.goal_lists.specs.Settings.{Setting}
use Rattle.goal_lists.specs.Words.{Pairs, SomePair}
use Rattle.goal_lists.proofs.EqualLemmas.{no_pair_apart}
use Rattle.goal_lists.specs.Joined.{both}
use Rattle.goal_eval.specs.Outcomes.{RunsFor, Says, level_in, setting_in}
use Rattle.goal_eval.specs.Pending.{HaveOneHead, IsOfKind}
use Rattle.goal_terms.specs.Sorts.{sort_of, is_argument_sort}
use Rattle.goal_solver.specs.Relating.{all_replaced, SaysEqual}
use Rattle.goal_solver.specs.Settled.{IsSettled, AreSettled, HoldsWithMemory}
use Rattle.goal_eval.specs.declared.eval.outcomes.Setting as over
use Rattle.goal_lists.specs.declared.outcomes.Outcome.{Outcome}
use Rattle.goal_lists.specs.declared.outcomes.Outcome.TheVariants as outcome
use Rattle.goal_eval.specs.declared.eval.outcomes.Stop.{Stop}
use Rattle.goal_eval.specs.declared.eval.outcomes.Stop.TheVariants as stop
use Rattle.goal_eval.proofs.MergingLemmas.{both-says, says-map}
use Rattle.goal_eval.proofs.PendingLemmas.{parts-at}
use Rattle.goal_eval.proofs.TopLemmas.{Compares, compares, same-settled}
use Rattle.goal_terms.proofs.NodeTestLemmas.{some_node-erased}
use Rattle.goal_solver.proofs.TrailLemmas.{row_of, first_or, rest_of}

-- below every height only identical terms are equal
mutual
  unfolding Equal EqualByForm HasHeadForm

  ground-equal : (t u : Tree) → Equal nothing t u → t ≡ u
  ground-equal (node h ts) (node k us) x = ap₂ node x.0 (ground-rows ts us x.1)
  ground-equal (node h ts) (alias k us) x = absurd x.3
  ground-equal (node h ts) (variable w) x = absurd x
  ground-equal (alias h ts) u (inl e) = e
  ground-equal (alias h ts) u (inr x) = absurd x.2
  ground-equal (variable v) (node k us) x = absurd x
  ground-equal (variable v) (alias k us) x = absurd x.3
  ground-equal (variable v) (variable w) x = ap variable x

  ground-rows : (ts us : Trees) → RowEqual nothing ts us → ts ≡ us
  ground-rows none none x = refl
  ground-rows none (more u us) x = absurd x
  ground-rows (more t ts) none x = absurd x
  ground-rows (more t ts) (more u us) x = ap₂ more (ground-equal t u x.0) (ground-rows ts us x.1)

-- and only those are unequal that nothing makes identical
abbrev head_or : Head → Tree → Head
head_or d (node h ts) = h
head_or d (alias k ts) = d
head_or d (variable v) = d

mutual
  unfolding Unequal UnequalByForm HasHeadForm HeadFormRefuted replaced

  ground-unequal : (ρ : Variable → Tree) (t u : Tree) → Unequal nothing t u → replaced ρ t ≡ replaced ρ u → ⊥
  ground-unequal ρ (node h ts) (node k us) (inl d) e = d (ap (head_or h) e)
  ground-unequal ρ (node h ts) (node k us) (inr x) e = ground-rows_unequal ρ ts us x (ap row_of e)
  ground-unequal ρ (node h ts) (alias k us) (inl x) e = x
  ground-unequal ρ (node h ts) (alias k us) (inr (inl x)) e = x
  ground-unequal ρ (node h ts) (alias k us) (inr (inr x)) e = x.3
  ground-unequal ρ (node h ts) (variable w) x e = x
  ground-unequal ρ (alias h ts) u (d, inl x) e = x
  ground-unequal ρ (alias h ts) (node k us) (d, inr (inl x)) e = x
  ground-unequal ρ (alias h ts) (alias k us) (d, inr (inl x)) e = x
  ground-unequal ρ (alias h ts) (variable w) (d, inr (inl x)) e = x
  ground-unequal ρ (alias h ts) u (d, inr (inr x)) e = x.2
  ground-unequal ρ (variable v) (node k us) x e = x
  ground-unequal ρ (variable v) (alias k us) (inl x) e = x
  ground-unequal ρ (variable v) (alias k us) (inr (inl x)) e = x
  ground-unequal ρ (variable v) (alias k us) (inr (inr x)) e = x.3
  ground-unequal ρ (variable v) (variable w) x e = x

  ground-rows_unequal : (ρ : Variable → Tree) (ts us : Trees) → RowUnequal nothing ts us → replaced_row ρ ts ≡ replaced_row ρ us → ⊥
  ground-rows_unequal ρ none none x e = x
  ground-rows_unequal ρ none (more u us) x e = absurd (cc)
  ground-rows_unequal ρ (more t ts) none x e = absurd (cc)
  ground-rows_unequal ρ (more t ts) (more u us) (inl x) e = ground-unequal ρ t u x (ap (first_or t) e)
  ground-rows_unequal ρ (more t ts) (more u us) (inr x) e = ground-rows_unequal ρ ts us x (ap rest_of e)

-- neither of two tests passes
neither : (a b : Bool) → a || b ≡ false → (a ≡ false) × (b ≡ false)
neither true b e = absurd (cc)
neither false b e = (refl, e)

-- a closed term stays as it is
mutual
  unfolding replaced some_node

  replaced-same : (ρ : Variable → Tree) (t : Tree) → some_node is_any_infer t ≡ false → replaced ρ t ≡ t
  replaced-same ρ (node h ts) e = ap (node h) (replaced_row-same ρ ts e)
  replaced-same ρ (alias k ts) e = ap (alias k) (replaced_row-same ρ ts e)
  replaced-same ρ (variable v) e = absurd (cc)

  replaced_row-same : (ρ : Variable → Tree) (ts : Trees) → some_in_row is_any_infer ts ≡ false → replaced_row ρ ts ≡ ts
  replaced_row-same ρ none e = refl
  replaced_row-same ρ (more t ts) e =
      let both : (some_node is_any_infer t ≡ false) × (some_in_row is_any_infer ts ≡ false) = neither (some_node is_any_infer t) (some_in_row is_any_infer ts) e in
      ap₂ more (replaced-same ρ t both.0) (replaced_row-same ρ ts both.1)

pub replaced-closed : (ρ : Variable → Tree) (t : Tree) → IsClosed t → replaced ρ t ≡ t
replaced-closed = replaced-same

-- variables in a row of terms
row-variables : (ts : Trees) → some_in_row is_any_infer ts ≡ list_any (some_node is_any_infer) (list_of ts)
unfolding some_node
row-variables none = refl
row-variables (more t ts) = ap (λ b. some_node is_any_infer t || b) (row-variables ts)

-- a variable stands in a term if it is one, or if one stands in a part
variable-parts : (t : Tree) → some_node is_any_infer t ≡ is_any_infer (node_of t) || list_any (some_node is_any_infer) (parts_of t)
unfolding some_node
variable-parts (node h ts) = row-variables ts
variable-parts (alias k ts) = row-variables ts
variable-parts (variable v) = either-none (is_any_infer (nodes.Variable v)) where
  either-none : (b : Bool) → b ≡ b || false
  either-none true = refl
  either-none false = refl

-- lifetimes hold none
pub closed-erased : (t : Tree) → some_node is_any_infer (erased t) ≡ some_node is_any_infer t
closed-erased t = some_node-erased is_any_infer (λ h. refl) t

-- what the tops of two terms settle
pub settled-tops : (c : over.Setting) (b : Bool) (n : ℕ) (t u : Tree) (o : Outcome) →
    ((S : Setting) (i : ℕ) → Says ((level S i).equal t u) ((level S i).unequal t u) o) → IsSettled c b n t u o
unfolding level
settled-tops c b n t u o says = record {
  holds = λ e m stands ρ. same-settled (replaced ρ t) (replaced ρ u)
      (ap (replaced ρ) (ground-equal t u (subst (Says (Equal nothing t u) (Unequal nothing t u)) e (says (setting_in c m) zero)))) (setting_in c m) n;
  refuted = λ e ρ. ground-unequal ρ t u (subst (Says (Equal nothing t u) (Unequal nothing t u)) e (says (setting_in c mode.PostAnalysis) zero));
  closed = λ opens left right m stands. says (setting_in c m) n;
}

-- where they are the same they hold
pub same-tops : (t u : Tree) (o : Outcome) → ((S : Setting) (i : ℕ) → Says ((level S i).equal t u) ((level S i).unequal t u) o) → (S : Setting) → t ≡ u → o ≡ outcome.Holds
same-tops t u outcome.Holds says S e = refl
same-tops t u outcome.Refuted says S e = absurd ((compares S zero).apart t u (same-settled t u e S zero) (says S zero))
same-tops t u outcome.Undecided says S e = absurd ((says S zero).0 (same-settled t u e S zero))

-- a term of a constructor with trees put for its variables
one-replaced : (ρ : Variable → Tree) (t u : Tree) → HaveOneHead t u → HaveOneHead (replaced ρ t) (replaced ρ u)
unfolding replaced
one-replaced ρ (node h ts) (node k us) one = one
one-replaced ρ (node h ts) (alias k us) one = absurd (cc)
one-replaced ρ (node h ts) (variable w) one = absurd (cc)
one-replaced ρ (alias h ts) u one = absurd (cc)
one-replaced ρ (variable v) u one = absurd (cc)

row-replaced : (ρ : Variable → Tree) (ts : Trees) → list_of (replaced_row ρ ts) ≡ map (replaced ρ) (list_of ts)
unfolding replaced
row-replaced ρ none = refl
row-replaced ρ (more t ts) = ap (λ us. replaced ρ t ∷ us) (row-replaced ρ ts)

parts-replaced : (ρ : Variable → Tree) (t : Tree) (h : Head) → node_of t ≡ nodes.Head h → parts_of (replaced ρ t) ≡ map (replaced ρ) (parts_of t)
unfolding replaced
parts-replaced ρ (node h ts) k e = row-replaced ρ ts
parts-replaced ρ (alias h ts) k e = absurd (cc)
parts-replaced ρ (variable v) k e = absurd (cc)

closed-parts : (t : Tree) → IsClosed t → AllClosed (parts_of t)
closed-parts t e = (neither (is_any_infer (node_of t)) (list_any (some_node is_any_infer) (parts_of t)) (sym (variable-parts t) ∙ e)).1

-- what the parts of terms of one constructor settle
settled-parts : (c : over.Setting) (b : Bool) (n : ℕ) (t u : Tree) (o : Outcome) → HaveOneHead t u → AreSettled c b n (parts_of t) (parts_of u) o → IsSettled c b n t u o
settled-parts c b n t u o one s = record {
  holds = λ e m stands ρ.
      (compares (setting_in c m) n).equal_by_parts (replaced ρ t) (replaced ρ u) (one-replaced ρ t u one)
      (subst (λ xs. Pairs (level_in c m n).equal xs (parts_of (replaced ρ u))) (sym (parts-replaced ρ t one.0 one.1))
      (subst (Pairs (level_in c m n).equal (all_replaced ρ (parts_of t))) (sym (parts-replaced ρ u one.0 one.2)) (s.holds e m stands ρ)));
  refuted = λ e ρ f. s.refuted e ρ (sym (parts-replaced ρ t one.0 one.1) ∙ ap parts_of f ∙ parts-replaced ρ u one.0 one.2);
  closed = λ opens left right m stands.
      let says : SaysEqual (level_in c m n) (parts_of t) (parts_of u) o = s.closed opens (closed-parts t left) (closed-parts u right) m stands in
      let by : Compares (level_in c m n).equal (level_in c m n).unequal = compares (setting_in c m) n in
      says-map (Pairs (level_in c m n).equal (parts_of t) (parts_of u)) ((level_in c m n).equal t u) (SomePair (level_in c m n).unequal (parts_of t) (parts_of u)) ((level_in c m n).unequal t u)
      (by.equal_by_parts t u one) (by.parts_equal t u one) (by.unequal_by_parts t u one) (by.parts_unequal t u one) o says;
}

pub settled-by_parts : (c : over.Setting) (b : Bool) (n : ℕ) (T : List Tree) (l r : TermId) (ls rs : List TermId) (o : Result Outcome Stop) → HaveOneHead (erased_at T l) (erased_at T r) →
    map (tree_at T) ls ≡ parts_of (tree_at T l) → map (tree_at T) rs ≡ parts_of (tree_at T r) →
    IfOk o (AreSettled c b n (erased_all T ls) (erased_all T rs)) → IfOk o (IsSettled c b n (erased_at T l) (erased_at T r))
settled-by_parts c b n T l r ls rs (Err x) one e f s = tt
settled-by_parts c b n T l r ls rs (Ok o) one e f s =
    settled-parts c b n (erased_at T l) (erased_at T r) o one
    (subst (λ xs. AreSettled c b n xs (parts_of (erased_at T r)) o) (parts-at T l ls e) (subst (λ xs. AreSettled c b n (erased_all T ls) xs o) (parts-at T r rs f) s))

-- the parts of one term
pub same-parts : (T : List Tree) (l r : TermId) (ls rs : List TermId) → map (tree_at T) ls ≡ parts_of (tree_at T l) → map (tree_at T) rs ≡ parts_of (tree_at T r) →
    erased_at T l ≡ erased_at T r → erased_all T ls ≡ erased_all T rs
same-parts T l r ls rs e f same = parts-at T l ls e ∙ ap parts_of same ∙ sym (parts-at T r rs f)

-- where a variable is in the way nothing is said
pub settled-open : (c : over.Setting) (b : Bool) (n : ℕ) (t u : Tree) → (b ≡ true → IsClosed t → IsClosed u → ⊥) → IsSettled c b n t u outcome.Undecided
settled-open c b n t u never = record {
  holds = λ e. absurd (cc);
  refuted = λ e. absurd (cc);
  closed = λ opens left right. absurd (never opens left right);
}

-- closed terms that were compared, since they aren't the same
settled-compared : (c : over.Setting) (b : Bool) (n : ℕ) (t u : Tree) (o : Outcome) → IsClosed t → IsClosed u → t ≢ u →
    ((m : TypingMode) → RunsFor c m → Says ((level_in c m n).equal t u) ((level_in c m n).unequal t u) o) → IsSettled c b n t u o
settled-compared c b n t u o left right apart says = record {
  holds = λ e m stands ρ.
      subst (λ x. (level_in c m n).equal x (replaced ρ u)) (sym (replaced-closed ρ t left))
      (subst ((level_in c m n).equal t) (sym (replaced-closed ρ u right)) (subst (Says ((level_in c m n).equal t u) ((level_in c m n).unequal t u)) e (says m stands)));
  refuted = λ e ρ f. apart (sym (replaced-closed ρ t left) ∙ f ∙ replaced-closed ρ u right);
  closed = λ opens l r. says;
}

pub settled-closed : (c : over.Setting) (b : Bool) (n : ℕ) (t u : Tree) (o : Result Outcome Stop) → IsClosed t → IsClosed u → t ≢ u →
    ((m : TypingMode) → RunsFor c m → IfOk o (Says ((level_in c m n).equal t u) ((level_in c m n).unequal t u))) → IfOk o (IsSettled c b n t u)
settled-closed c b n t u (Err x) left right apart says = tt
settled-closed c b n t u (Ok o) left right apart says = settled-compared c b n t u o left right apart says

-- pairs of two lists and one more
module _ {A B : Type 0} (R : A → B → Type 0) (x : A) (y : B) where
  pairs-push : (xs : List A) (ys : List B) → length xs ≡ length ys → Pairs R (xs ++ x ∷ []) (ys ++ y ∷ []) ↔ (Pairs R xs ys × R x y)
  unfolding Pairs
  pairs-push [] [] e = (λ p. (tt, p.0), λ p. (p.1, tt))
  pairs-push [] (b ∷ ys) e = absurd (omega (arith, e))
  pairs-push (a ∷ xs) [] e = absurd (omega (arith, e))
  pairs-push (a ∷ xs) (b ∷ ys) e =
      let h : Pairs R (xs ++ x ∷ []) (ys ++ y ∷ []) ↔ (Pairs R xs ys × R x y) = pairs-push xs ys (omega (arith, e)) in
      (λ p. ((p.0, (h.0 p.1).0), (h.0 p.1).1), λ p. (p.0.0, h.1 (p.0.1, p.1)))

  some-push : (xs : List A) (ys : List B) → length xs ≡ length ys → SomePair R (xs ++ x ∷ []) (ys ++ y ∷ []) ↔ (SomePair R xs ys ⊎ R x y)
  unfolding SomePair
  some-push [] [] e = (λ p. ⊎_elim (λ r. inr r) (λ q. absurd q) p, λ p. ⊎_elim (λ q. absurd q) (λ r. inl r) p)
  some-push [] (b ∷ ys) e = absurd (omega (arith, e))
  some-push (a ∷ xs) [] e = absurd (omega (arith, e))
  some-push (a ∷ xs) (b ∷ ys) e =
      let h : SomePair R (xs ++ x ∷ []) (ys ++ y ∷ []) ↔ (SomePair R xs ys ⊎ R x y) = some-push xs ys (omega (arith, e)) in (
        λ p. ⊎_elim (λ r. inl (inl r)) (λ q. ⊎_elim (λ s. inl (inr s)) (λ r. inr r) (h.0 q)) p,
        λ p. ⊎_elim (λ q. ⊎_elim (λ r. inl r) (λ s. inr (h.1 (inl s))) q) (λ r. inr (h.1 (inr r))) p,
      )

-- no test passes in a list and one more
any-push : {A : Type 0} (p : A → Bool) (x : A) (xs : List A) → list_any p (xs ++ x ∷ []) ≡ false → (list_any p xs ≡ false) × (p x ≡ false)
any-push p x [] e = (refl, (neither (p x) false e).0)
any-push p x (y ∷ xs) e =
    let h : (p y ≡ false) × (list_any p (xs ++ x ∷ []) ≡ false) = neither (p y) (list_any p (xs ++ x ∷ [])) e in
    let k : (list_any p xs ≡ false) × (p x ≡ false) = any-push p x xs h.1 in
    (ap (λ b. b || list_any p xs) h.0 ∙ k.0, k.1)

-- lists that are the same with one more
last-same : {A : Type 0} (x y : A) (xs ys : List A) → length xs ≡ length ys → xs ++ x ∷ [] ≡ ys ++ y ∷ [] → (xs ≡ ys) × (x ≡ y)
last-same x y [] [] n e = (refl, cc)
last-same x y [] (b ∷ ys) n e = absurd (omega (arith, n))
last-same x y (a ∷ xs) [] n e = absurd (omega (arith, n))
last-same x y (a ∷ xs) (b ∷ ys) n e =
    let h : a ≡ b = cc in
    let k : xs ++ x ∷ [] ≡ ys ++ y ∷ [] = cc in
    let r : (xs ≡ ys) × (x ≡ y) = last-same x y xs ys (omega (arith, n)) k in
    (ap₂ (λ z zs. z ∷ zs) h r.0, r.1)

-- two questions that both hold, and two of which one is refuted
both-hold : (a b : Outcome) → both a b ≡ outcome.Holds → (a ≡ outcome.Holds) × (b ≡ outcome.Holds)
both-hold outcome.Holds b e = (refl, e)
both-hold outcome.Refuted b e = absurd (cc)
both-hold outcome.Undecided outcome.Holds e = absurd (cc)
both-hold outcome.Undecided outcome.Refuted e = absurd (cc)
both-hold outcome.Undecided outcome.Undecided e = absurd (cc)

one-refuted : (a b : Outcome) → both a b ≡ outcome.Refuted → (a ≡ outcome.Refuted) ⊎ (b ≡ outcome.Refuted)
one-refuted outcome.Holds b e = inr e
one-refuted outcome.Refuted b e = inl refl
one-refuted outcome.Undecided outcome.Holds e = absurd (cc)
one-refuted outcome.Undecided outcome.Refuted e = inr refl
one-refuted outcome.Undecided outcome.Undecided e = absurd (cc)

pub both-held : (a b : Outcome) → a ≡ outcome.Holds → b ≡ outcome.Holds → both a b ≡ outcome.Holds
both-held a b e f = ap (λ z. both z b) e ∙ f

-- no pairs
pub settled-none : (c : over.Setting) (b : Bool) (n : ℕ) → AreSettled c b n [] [] outcome.Holds
unfolding Pairs
settled-none c b n = record {
  holds = λ e m stands ρ. tt;
  refuted = λ e. absurd (cc);
  closed = λ opens left right m stands. tt;
}

-- some pairs and one more
settled-push : (c : over.Setting) (b : Bool) (n : ℕ) (ts us : List Tree) (t u : Tree) (o q : Outcome) → length ts ≡ length us → AreSettled c b n ts us o → IsSettled c b n t u q →
    AreSettled c b n (ts ++ t ∷ []) (us ++ u ∷ []) (both o q)
settled-push c b n ts us t u o q len s h =
    let alike : (ρ : Variable → Tree) → length (all_replaced ρ ts) ≡ length (all_replaced ρ us) = λ ρ. length-map ts (replaced ρ) ∙ len ∙ sym (length-map us (replaced ρ)) in
    record {
      holds = λ e m stands ρ.
          let two : (o ≡ outcome.Holds) × (q ≡ outcome.Holds) = both-hold o q e in
          subst (λ xs. Pairs (level_in c m n).equal xs (all_replaced ρ (us ++ u ∷ []))) (sym (map-append (replaced ρ) ts (t ∷ [])))
          (subst (Pairs (level_in c m n).equal (all_replaced ρ ts ++ replaced ρ t ∷ [])) (sym (map-append (replaced ρ) us (u ∷ [])))
          ((pairs-push (level_in c m n).equal (replaced ρ t) (replaced ρ u) (all_replaced ρ ts) (all_replaced ρ us) (alike ρ)).1 (s.holds two.0 m stands ρ, h.holds two.1 m stands ρ)));
      refuted = λ e ρ same.
          let both : (all_replaced ρ ts ≡ all_replaced ρ us) × (replaced ρ t ≡ replaced ρ u) =
          last-same (replaced ρ t) (replaced ρ u) (all_replaced ρ ts) (all_replaced ρ us) (alike ρ)
          (sym (map-append (replaced ρ) ts (t ∷ [])) ∙ same ∙ map-append (replaced ρ) us (u ∷ [])) in
          ⊎_elim (λ f. s.refuted f ρ both.0) (λ f. h.refuted f ρ both.1) (one-refuted o q e);
      closed = λ opens left right m stands.
          let ls : AllClosed ts × IsClosed t = any-push (some_node is_any_infer) t ts left in
          let rs : AllClosed us × IsClosed u = any-push (some_node is_any_infer) u us right in
          let E : Tree → Tree → Type 0 = (level_in c m n).equal in
          let U : Tree → Tree → Type 0 = (level_in c m n).unequal in
          let apart : (x y : Tree) → E x y → U x y → ⊥ = (compares (setting_in c m) n).apart in
          let all : Pairs E (ts ++ t ∷ []) (us ++ u ∷ []) ↔ (Pairs E ts us × E t u) = pairs-push E t u ts us len in
          let some : SomePair U (ts ++ t ∷ []) (us ++ u ∷ []) ↔ (SomePair U ts us ⊎ U t u) = some-push U t u ts us len in
          says-map (Pairs E ts us × E t u) (Pairs E (ts ++ t ∷ []) (us ++ u ∷ [])) (SomePair U ts us ⊎ U t u) (SomePair U (ts ++ t ∷ []) (us ++ u ∷ []))
          all.1 all.0 some.1 some.0 (both o q)
          (both-says (Pairs E ts us) (SomePair U ts us) (E t u) (U t u) (no_pair_apart E U apart ts us) (apart t u) o q
          (s.closed opens ls.0 rs.0 m stands) (h.closed opens ls.1 rs.1 m stands));
    }

-- the terms of some numbers, up to the next place
next-term : (T : List Tree) (ids : List TermId) (i : ℕ) (d : TermId) → i < length ids →
    take (i + 1) (erased_all T ids) ≡ take i (erased_all T ids) ++ erased_at T (get_or ids i d) ∷ []
next-term T ids i d l =
    take_more (erased_all T ids) i (erased_at T d) (subst (λ n. i < n) (sym (length-map ids (erased_at T))) l)
    ∙ ap (λ t. take i (erased_all T ids) ++ t ∷ []) (get_or-map (erased_at T) ids i d (erased_at T d) l)

taken-length : (T : List Tree) (ids : List TermId) (i : ℕ) → i ≤ length ids → length (take i (erased_all T ids)) ≡ i
taken-length T ids i l = omega (arith, length-take i (erased_all T ids), length-map ids (erased_at T))

pub settled-more : (c : over.Setting) (b : Bool) (n : ℕ) (T U : List Tree) (ls rs : List TermId) (i : ℕ) (d : TermId) (o q : Outcome) → Keeps T U → i < length ls → i < length rs →
    (get_or ls i d).0 < length T → (get_or rs i d).0 < length T →
    AreSettled c b n (take i (erased_all T ls)) (take i (erased_all T rs)) o → IsSettled c b n (erased_at U (get_or ls i d)) (erased_at U (get_or rs i d)) q →
    AreSettled c b n (take (i + 1) (erased_all T ls)) (take (i + 1) (erased_all T rs)) (both o q)
settled-more c b n T U ls rs i d o q kept p r below under s h =
    subst (λ xs. AreSettled c b n xs (take (i + 1) (erased_all T rs)) (both o q)) (sym (next-term T ls i d p))
    (subst (λ xs. AreSettled c b n (take i (erased_all T ls) ++ erased_at T (get_or ls i d) ∷ []) xs (both o q)) (sym (next-term T rs i d r))
    (settled-push c b n (take i (erased_all T ls)) (take i (erased_all T rs)) (erased_at T (get_or ls i d)) (erased_at T (get_or rs i d)) o q
    (taken-length T ls i (omega (arith, p)) ∙ sym (taken-length T rs i (omega (arith, r)))) s
    (subst (λ x. IsSettled c b n x (erased_at T (get_or rs i d)) q) (ap erased (kept.same (get_or ls i d) below))
    (subst (λ x. IsSettled c b n (erased_at U (get_or ls i d)) x q) (ap erased (kept.same (get_or rs i d) under)) h))))

-- all of them
pub settled-all : (c : over.Setting) (b : Bool) (n : ℕ) (T : List Tree) (ls rs : List TermId) (i : ℕ) (o : Outcome) → length ls ≤ i → length rs ≤ i →
    AreSettled c b n (take i (erased_all T ls)) (take i (erased_all T rs)) o → AreSettled c b n (erased_all T ls) (erased_all T rs) o
settled-all c b n T ls rs i o p r s =
    subst (λ xs. AreSettled c b n xs (erased_all T rs) o) (take_all i (erased_all T ls) (omega (arith, p, length-map ls (erased_at T))))
    (subst (λ xs. AreSettled c b n (take i (erased_all T ls)) xs o) (take_all i (erased_all T rs) (omega (arith, r, length-map rs (erased_at T)))) s)

-- some pair of the first ones is some pair
some-taken : {A B : Type 0} (R : A → B → Type 0) (i : ℕ) (xs : List A) (ys : List B) → i ≤ length xs → i ≤ length ys → SomePair R (take i xs) (take i ys) → SomePair R xs ys
unfolding SomePair
some-taken R zero xs ys p q h = absurd h
some-taken R (suc i) [] ys p q h = absurd (omega (arith, p))
some-taken R (suc i) (x ∷ xs) [] p q h = absurd (omega (arith, q))
some-taken R (suc i) (x ∷ xs) (y ∷ ys) p q h = ⊎_elim (λ r. inl r) (λ k. inr (some-taken R i xs ys (omega (arith, p)) (omega (arith, q)) k)) h

any-taken : {A : Type 0} (p : A → Bool) (i : ℕ) (xs : List A) → list_any p xs ≡ false → list_any p (take i xs) ≡ false
any-taken p zero xs e = refl
any-taken p (suc i) [] e = refl
any-taken p (suc i) (x ∷ xs) e =
    let h : (p x ≡ false) × (list_any p xs ≡ false) = neither (p x) (list_any p xs) e in ap (λ b. b || list_any p (take i xs)) h.0 ∙ any-taken p i xs h.1

-- once a pair is refuted
refuted-early : (c : over.Setting) (b : Bool) (n i : ℕ) (ts us : List Tree) → i ≤ length ts → i ≤ length us →
    AreSettled c b n (take i ts) (take i us) outcome.Refuted → AreSettled c b n ts us outcome.Refuted
refuted-early c b n i ts us p q s = record {
  holds = λ e. absurd (cc);
  refuted = λ e ρ same. s.refuted refl ρ (sym (take-map (replaced ρ) i ts) ∙ ap (take i) same ∙ take-map (replaced ρ) i us);
  closed = λ opens left right m stands.
      some-taken (level_in c m n).unequal i ts us p q (s.closed opens (any-taken (some_node is_any_infer) i ts left) (any-taken (some_node is_any_infer) i us right) m stands);
}

pub settled-early : (c : over.Setting) (b : Bool) (n : ℕ) (T : List Tree) (ls rs : List TermId) (i : ℕ) (o : Outcome) → o ≡ outcome.Refuted → i ≤ length ls → i ≤ length rs →
    AreSettled c b n (take i (erased_all T ls)) (take i (erased_all T rs)) o → AreSettled c b n (erased_all T ls) (erased_all T rs) outcome.Refuted
settled-early c b n T ls rs i o e p q s =
    refuted-early c b n i (erased_all T ls) (erased_all T rs) (omega (arith, p, length-map ls (erased_at T))) (omega (arith, q, length-map rs (erased_at T)))
    (subst (AreSettled c b n (take i (erased_all T ls)) (take i (erased_all T rs))) e s)

-- lists of unlike lengths
some-unlike : {A B : Type 0} (R : A → B → Type 0) (xs : List A) (ys : List B) → length xs ≢ length ys → SomePair R xs ys
unfolding SomePair
some-unlike R [] [] n = n refl
some-unlike R [] (y ∷ ys) n = tt
some-unlike R (x ∷ xs) [] n = tt
some-unlike R (x ∷ xs) (y ∷ ys) n = inr (some-unlike R xs ys (λ e. n (ap suc e)))

same-length : (T : List Tree) (ls rs : List TermId) → erased_all T ls ≡ erased_all T rs → length rs ≡ length ls
same-length T ls rs e = sym (length-map rs (erased_at T)) ∙ ap length (sym e) ∙ length-map ls (erased_at T)

pub settled-unlike : (c : over.Setting) (b : Bool) (n : ℕ) (T : List Tree) (ls rs : List TermId) → length rs ≢ length ls → AreSettled c b n (erased_all T ls) (erased_all T rs) outcome.Refuted
settled-unlike c b n T ls rs differ =
    let apart : length (erased_all T ls) ≢ length (erased_all T rs) = λ e. differ (sym (length-map rs (erased_at T)) ∙ sym e ∙ length-map ls (erased_at T)) in
    record {
      holds = λ e. absurd (cc);
      refuted = λ e ρ same. apart (sym (length-map (erased_all T ls) (replaced ρ)) ∙ ap length same ∙ length-map (erased_all T rs) (replaced ρ));
      closed = λ opens left right m stands. some-unlike (level_in c m n).unequal (erased_all T ls) (erased_all T rs) apart;
    }

pub same-unlike : (T : List Tree) (ls rs : List TermId) → length rs ≢ length ls → erased_all T ls ≡ erased_all T rs → ⊥
same-unlike T ls rs differ e = differ (same-length T ls rs e)

-- lists that are the same are so at each place
pub same-at : (T U : List Tree) (ls rs : List TermId) (i : ℕ) (d : TermId) → Keeps T U → i < length ls → i < length rs → (get_or ls i d).0 < length T → (get_or rs i d).0 < length T →
    erased_all T ls ≡ erased_all T rs → erased_at U (get_or ls i d) ≡ erased_at U (get_or rs i d)
same-at T U ls rs i d kept p q below under e =
    ap erased (kept.same (get_or ls i d) below)
    ∙ sym (get_or-map (erased_at T) ls i d (erased_at T d) p) ∙ ap (λ xs. get_or xs i (erased_at T d)) e ∙ get_or-map (erased_at T) rs i d (erased_at T d) q
    ∙ sym (ap erased (kept.same (get_or rs i d) under))

-- a term is of its kind in a table that has grown
pub kind-grown : (T U : List Tree) → Keeps T U → (b : Bool) (id : TermId) → IsOfKind T b id → IsOfKind U b id
kind-grown T U k b id h = (omega (arith, h.0, k.longer), ap (λ t. is_argument_sort (sort_of (node_of t))) (k.same id h.0) ∙ h.1)

-- what is handed on says of memory what was said before
pub memory-on : (r : Result Outcome Stop) (x : Stop) → IsErrAnd r (λ y. y ≡ x) → x ≡ stop.OutOfMemory → HoldsWithMemory r
memory-on (Ok o) x h e = absurd h
memory-on (Err y) x h e = h ∙ e

pub memory-kept : (r : Result Outcome Stop) (x : Stop) → IsErrAnd r (λ y. y ≡ x) → x ≡ stop.OutOfMemory → IfErr r (λ y. y ≡ stop.OutOfMemory)
memory-kept (Ok o) x h e = absurd h
memory-kept (Err y) x h e = h ∙ e
