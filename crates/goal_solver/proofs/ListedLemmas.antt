-- What lists all that came since a trial began can be applied to the context that the trial began in.
use Rattle.std.proofs.Common.{◌≡◌, ◌≢◌, ℕ, zero, suc, Bool, true, false, List, [], ◌∷◌, ◌++◌, length, map, take, drop, Option, Some, None, refl, sym, ap, ◌∙◌, subst, arith, append_assoc}
use Rattle.std.specs.Prelude.{IsTrue, min, slice_get, Result, Ok, Err, IfOk}
use Rattle.std.specs.List.{All, AllZip, cons_option}
use Rattle.std.proofs.lemmas.List.{append-nil, map-append, length-map, length-take, take-append-drop}
use Rattle.std.proofs.lemmas.List.Elements.{All-head, All-push}
use Rattle.goal_terms.specs.Erased.{erased}
use Rattle.goal_terms.specs.NodeTests.{is_made}
use Rattle.goal_terms.specs.Tree.{Tree, variable, node_of}
use Rattle.goal_terms.specs.TreeOf.{tree_of_term}
use Rattle.goal_terms.specs.declared.answers.Certainty.{Certainty}
use Rattle.goal_terms.specs.declared.answers.OpaqueTypeKey.{OpaqueTypeKey}
use Rattle.goal_terms.specs.declared.answers.Response.{Response}
use Rattle.goal_terms.specs.declared.answers.VarKind.{VarKind}
use Rattle.goal_terms.specs.declared.heads.Variable.{Variable}
use Rattle.goal_terms.specs.declared.terms.Term.{Term}
use Rattle.goal_terms.specs.declared.terms.Ty.{Ty}
use Rattle.goal_infer.specs.Inference as inference
use Rattle.goal_infer.specs.Inference.{Inference, lengths_of}
use Rattle.goal_infer.specs.Occurrence.{place_of}
use Rattle.goal_infer.specs.Replacement.{number_of, kind_of_variable, replaced, takes, OfKinds}
use Rattle.goal_infer.specs.Resolution.{binding_of, resolution, StandOnce, IsSolved}
use Rattle.goal_infer.specs.Unification.{is_made_in}
use Rattle.goal_infer.specs.declared.undo.InferVariable.{InferVariable}
use Rattle.goal_infer.proofs.SolvedLemmas.{solved-more, solved-kept}
use Rattle.goal_kinds.specs.declared.faults.Fault.{Fault}
use Rattle.goal_solver.specs.Answers.{AnswersQuietly}
use Rattle.goal_solver.specs.Binding.{bound_term, IsFreeFor, BindsTo, CanBeListed, IsApplicable}
use Rattle.goal_solver.specs.GoingBack.{GoesBack, begun, mark_of, restored}
use Rattle.goal_solver.specs.Responses.{variable_at, variables_at, bindings_of, IsValueOf, IsEntryOf, ListsSinceMark}
use Rattle.goal_solver.specs.State.{State, kinds_in, kinds_of}
use Rattle.goal_solver.specs.Stored.{HasOneTypeAKey, IsSameKey}
use Rattle.goal_solver.specs.Variables.{unbound, with_kinds, with_variables}
use Rattle.goal_solver.specs.declared.context.Mark.{Mark}
use Rattle.goal_solver.proofs.ApplicableLemmas.{quiet-applies, with_nothing}
use Rattle.goal_solver.proofs.GoingBackLemmas.{kinds-rolled_back}
use Rattle.goal_solver.proofs.StoredLemmas.{some-is}
use Rattle.goal_solver.proofs.TrailLemmas.{stays-same, stands-nowhere, stands-unbound, off-unbound, unbound-off, resolution-again, variable-made, unmade-unbound, all-front, all-back, off-before}

-- a state in which no more variables are bound than the first ones of a later state's trail
record IsBefore (u z : State) (first : List ℕ) : Type 0 where
  solved : IsSolved z.terms z.inference
  kinds : kinds_of z ≡ kinds_of u
  trail : (n : ℕ) → All (λ m. m ≢ n) first → All (λ m. m ≢ n) z.inference.trail

made-as : (u z : State) (v : Variable) → kinds_of z ≡ kinds_of u → is_made_in z.inference v ≡ is_made_in u.inference v
unfolding is_made_in
made-as u z v e = ap (λ ks. is_made ks (number_of v) (kind_of_variable v)) e

module _ (u : State) (solved : IsSolved u.terms u.inference) where
  -- what is unbound in the later state is so before
  unbound-before : (z : State) (first rest : List ℕ) → u.inference.trail ≡ first ++ rest → IsBefore u z first → (w : Variable) → binding_of u.inference w ≡ None →
      binding_of z.inference w ≡ None
  unbound-before z first rest e b w f = on (is_made_in u.inference w) refl where
    on : (q : Bool) → is_made_in u.inference w ≡ q → binding_of z.inference w ≡ None
    on true made =
        off-unbound z.terms z.inference b.solved w
        (b.trail (number_of w) (all-front (λ m. m ≢ number_of w) first rest
        (subst (All (λ m. m ≢ number_of w)) e (unbound-off u.terms u.inference solved w made f))))
    on false made = unmade-unbound z.inference w (made-as u z w b.kinds ∙ made)

  -- what is on its trail is bound in it
  bound-moves : (first : List ℕ) (n : ℕ) (rest : List ℕ) (v : Variable) → u.inference.trail ≡ first ++ n ∷ rest → variable_at u.inference n ≡ Some v → bindings_of u v ≢ variable v
  bound-moves first n rest v e at same =
      let made = variable-made u.inference n v at in
      let off : All (λ m. m ≢ number_of v) (first ++ n ∷ rest) =
      subst (All (λ m. m ≢ number_of v)) e (unbound-off u.terms u.inference solved v made.1 (stands-unbound u.terms u.inference solved v v same)) in
      All-head (λ m. m ≢ number_of v) n rest (all-back (λ m. m ≢ number_of v) first (n ∷ rest) off) (sym made.0)

  -- the next variable of the trail may be given the term that stands for it in the end
  value-free : (z : State) (first : List ℕ) (n : ℕ) (rest : List ℕ) (v : Variable) (t : Tree) → u.inference.trail ≡ first ++ n ∷ rest → IsBefore u z first →
      variable_at u.inference n ≡ Some v → erased t ≡ bindings_of u v → IsFreeFor z t v
  unfolding OfKinds
  value-free z first n rest v t e b at is =
      let made = variable-made u.inference n v at in
      let leaves : (w : Variable) → bindings_of u w ≡ variable w → resolution z.terms z.inference w ≡ variable w =
      (λ w f. b.solved.free w (unbound-before z first (n ∷ rest) e b w (stands-unbound u.terms u.inference solved w w f))) in
      let stays : bound_term z t ≡ bindings_of u v =
      ap (replaced (resolution z.terms z.inference)) is
      ∙ stays-same (bindings_of u) (resolution z.terms z.inference) leaves (bindings_of u v) (resolution-again u.terms u.inference solved v) in
      let off : All (λ m. m ≢ number_of v) first = subst (λ k. All (λ m. m ≢ k) first) (sym made.0) (off-before first n rest (subst StandOnce e solved.once)) in
      record {
        made = made-as u z v b.kinds ∙ made.1;
        unbound = off-unbound z.terms z.inference b.solved v (b.trail (number_of v) off);
        takes = subst (λ x. IsTrue (takes v (node_of x))) (sym stays) (solved.kinds v);
        absent = ap (place_of v) stays ∙ stands-nowhere (bindings_of u) v (bound-moves first n rest v e at) (bindings_of u v) (resolution-again u.terms u.inference solved v);
      }

  off-longer : (first : List ℕ) (n m : ℕ) → All (λ k. k ≢ m) (first ++ n ∷ []) → All (λ k. k ≢ m) first
  off-longer first n m h = all-front (λ k. k ≢ m) first (n ∷ []) h

  -- where it was given it, or where it is left out, the variables after it are next
  before-given : (z y : State) (first : List ℕ) (n : ℕ) (v : Variable) (t : Tree) → number_of v ≡ n → IsBefore u z first → BindsTo z y t v → IsBefore u y (first ++ n ∷ [])
  before-given z y first n v t e b binds = record {
    solved = binds.solved;
    kinds = binds.kinds ∙ b.kinds;
    trail = λ m off.
        subst (All (λ k. k ≢ m)) (sym binds.trail)
        (All-push (λ k. k ≢ m) z.inference.trail (number_of v) (b.trail m (off-longer first n m off))
        (λ f. All-head (λ k. k ≢ m) n [] (all-back (λ k. k ≢ m) first (n ∷ []) off) (sym e ∙ f)));
  }

  before-skipped : (z : State) (first : List ℕ) (n : ℕ) → IsBefore u z first → IsBefore u z (first ++ n ∷ [])
  before-skipped z first n b = record { solved = b.solved; kinds = b.kinds; trail = λ m off. b.trail m (off-longer first n m off) }

  -- so the values of the variables on the rest of the trail can be given, one after the other
  abbrev CanFollow : List ℕ → Type 0
  CanFollow rest =
      (first : List ℕ) (ps : List (ℕ × Term)) (z : State) → u.inference.trail ≡ first ++ rest → IsBefore u z first →
      AllZip (IsValueOf (bindings_of u)) (variables_at u.inference rest) ps → CanBeListed z ps

  trail-next : (first : List ℕ) (n : ℕ) (rest : List ℕ) → u.inference.trail ≡ first ++ n ∷ rest → u.inference.trail ≡ (first ++ n ∷ []) ++ rest
  trail-next first n rest e = e ∙ sym (append_assoc first (n ∷ []) rest)

  follow-given : (n : ℕ) (rest : List ℕ) (v : Variable) → CanFollow rest → variable_at u.inference n ≡ Some v →
      (first : List ℕ) (ps : List (ℕ × Term)) (z : State) → u.inference.trail ≡ first ++ n ∷ rest → IsBefore u z first →
      AllZip (IsValueOf (bindings_of u)) (v ∷ variables_at u.inference rest) ps → CanBeListed z ps
  unfolding CanBeListed
  follow-given n rest v next at first [] z e b h = absurd h
  follow-given n rest v next at first (p ∷ ps) z e b h = (
    v,
    sym h.0.0,
    value-free z first n rest v (tree_of_term p.1) e b at h.0.1,
    λ y binds. next (first ++ n ∷ []) ps y (trail-next first n rest e) (before-given z y first n v (tree_of_term p.1) (variable-made u.inference n v at).0 b binds) h.1,
  )

  follow-next : (n : ℕ) (rest : List ℕ) → CanFollow rest → CanFollow (n ∷ rest)
  follow-next n rest next first ps z e b h = on (variable_at u.inference n) refl h where
    on : (o : Option Variable) → variable_at u.inference n ≡ o → AllZip (IsValueOf (bindings_of u)) (cons_option o (variables_at u.inference rest)) ps → CanBeListed z ps
    on None f g = next (first ++ n ∷ []) ps z (trail-next first n rest e) (before-skipped z first n b) g
    on (Some v) f g = follow-given n rest v next f first ps z e b g

  follow-none : CanFollow []
  unfolding CanBeListed
  follow-none first [] z e b h = tt
  follow-none first (p ∷ ps) z e b h = absurd h

  values-follow : (rest : List ℕ) → CanFollow rest
  values-follow [] = follow-none
  values-follow (n ∷ rest) = follow-next n rest (values-follow rest)

-- fresh variables leave a state solved
pub solved-with_kinds : (T : List Tree) (s : Inference) (ks : List VarKind) → IsSolved T s → IsSolved T (with_kinds ks s)
solved-with_kinds T s [] solved = subst (λ vs. IsSolved T (record s { variables = vs })) (sym (append-nil s.variables)) solved
solved-with_kinds T s (k ∷ ks) solved =
    subst (λ vs. IsSolved T (record s { variables = vs })) (append_assoc s.variables (unbound k ∷ []) (map unbound ks))
    (solved-with_kinds T (record s { variables = s.variables ++ unbound k ∷ [] }) ks (solved-more T s (unbound k) refl solved))

kinds-unbound : (ks : List VarKind) → kinds_in (map unbound ks) ≡ ks
kinds-unbound [] = refl
kinds-unbound (k ∷ ks) = ap (λ ms. k ∷ ms) (kinds-unbound ks)

kinds-with : (s : State) (ks : List VarKind) → kinds_of (with_variables ks s) ≡ kinds_of s ++ ks
kinds-with s ks =
    map-append (λ (v : InferVariable). v.kind) s.inference.variables (map unbound ks) ∙ ap (λ ms. kinds_of s ++ ms) (kinds-unbound ks)

-- the kinds and the trail of a state to which a later one goes back
kinds-first : (i j : Inference) → inference.GoesBack i j → take (length i.variables) (kinds_in j.variables) ≡ kinds_in i.variables
unfolding inference.GoesBack
kinds-first i j g = kinds-rolled_back j i (lengths_of i) (length i.variables) (kinds_in j.variables) (take (length i.variables) (kinds_in j.variables)) (sym g) refl refl refl

trail-first : (i j : Inference) → inference.GoesBack i j → j.trail ≡ i.trail ++ drop (length i.trail) j.trail
unfolding inference.GoesBack
trail-first i j g =
    sym (take-append-drop (length i.trail) j.trail) ∙ ap (λ ns. ns ++ drop (length i.trail) j.trail) (ap (λ (k : Inference). k.trail) g)

-- keys are listed as they were
same-keys : (es fs : List (OpaqueTypeKey × Ty)) → AllZip (λ (e f : OpaqueTypeKey × Ty). IsSameKey e.0 f.0) es fs → (i : ℕ) (e : OpaqueTypeKey × Ty) → slice_get es i ≡ Some e →
    (f : OpaqueTypeKey × Ty) × (slice_get fs i ≡ Some f) × IsSameKey e.0 f.0
same-keys [] [] h i e g = absurd (cc)
same-keys [] (f ∷ fs) h i e g = absurd h
same-keys (x ∷ es) [] h i e g = absurd h
same-keys (x ∷ es) (f ∷ fs) h zero e g = (f, refl, subst (λ (y : OpaqueTypeKey × Ty). IsSameKey y.0 f.0) (some-is x e g) h.0)
same-keys (x ∷ es) (f ∷ fs) h (suc i) e g = same-keys es fs h.1 i e g

one_type-same : (es fs : List (OpaqueTypeKey × Ty)) → AllZip (λ (e f : OpaqueTypeKey × Ty). IsSameKey e.0 f.0) es fs → HasOneTypeAKey fs → HasOneTypeAKey es
one_type-same es fs h one i j x y p q r =
    let a = same-keys es fs h i x p in
    let b = same-keys es fs h j y q in
    one i j a.0 b.0 a.1 b.1 (sym a.2.0 ∙ r.0 ∙ b.2.0, sym a.2.1 ∙ r.1 ∙ b.2.1)

keys-after : (ρ : Variable → Tree) (ds es fs : List (OpaqueTypeKey × Ty)) → AllZip (IsEntryOf ρ) es fs → AllZip (λ (e f : OpaqueTypeKey × Ty). IsSameKey e.0 f.0) (ds ++ fs) (ds ++ es)
keys-after ρ [] [] [] h = tt
keys-after ρ [] [] (f ∷ fs) h = absurd h
keys-after ρ [] (e ∷ es) [] h = absurd h
keys-after ρ [] (e ∷ es) (f ∷ fs) h = (h.0.0, keys-after ρ [] es fs h.1)
keys-after ρ (d ∷ ds) es fs h = ((refl, refl), keys-after ρ ds es fs h)

module _ (s u z : State) (c : Certainty) (r : Response) (back : GoesBack (begun s) u) (e : z ≡ restored s u) (first : IsSolved s.terms s.inference)
    (last : IsSolved u.terms u.inference) (keyed : HasOneTypeAKey u.storage) (listed : ListsSinceMark u c r) where
  marked : u.mark ≡ mark_of s
  marked = back.mark

  kinds-whole : kinds_of s ++ drop (length s.inference.variables) (kinds_of u) ≡ kinds_of u
  kinds-whole =
      ap (λ ks. ks ++ drop (length s.inference.variables) (kinds_of u)) (sym (kinds-first s.inference u.inference back.inference))
      ∙ take-append-drop (length s.inference.variables) (kinds_of u)

  vars-are : r.vars.items ≡ drop (length s.inference.variables) (kinds_of u)
  vars-are = listed.vars ∙ ap (λ (m : Mark). drop m.inference.variables (kinds_of u)) marked

  begins : IsBefore u (with_variables r.vars.items (restored s u)) s.inference.trail
  begins = record {
    solved = solved-with_kinds u.terms s.inference r.vars.items (solved-kept s.terms u.terms s.inference back.terms first);
    kinds = kinds-with (restored s u) r.vars.items ∙ ap (λ ks. kinds_of s ++ ks) vars-are ∙ kinds-whole;
    trail = λ n off. off;
  }

  values-are : AllZip (IsValueOf (bindings_of u)) (variables_at u.inference (drop (length s.inference.trail) u.inference.trail)) r.var_values.items
  values-are =
      subst (λ (m : Mark). AllZip (IsValueOf (bindings_of u)) (variables_at u.inference (drop m.inference.trail u.inference.trail)) r.var_values.items) marked listed.values

  -- all four lists can be applied
  restored-applies : IsApplicable (restored s u) r
  restored-applies = record {
    base =
        listed.base ∙ ap (λ (m : Mark). min m.inference.variables (length (kinds_of u))) marked
        ∙ omega (
          arith,
          ap length (kinds-first s.inference u.inference back.inference),
          length-take (length s.inference.variables) (kinds_of u),
          length-map s.inference.variables (λ (v : InferVariable). v.kind),
        );
    values =
        values-follow u last (drop (length s.inference.trail) u.inference.trail) s.inference.trail r.var_values.items (with_variables r.vars.items (restored s u))
        (trail-first s.inference u.inference back.inference) begins values-are;
    entries =
        one_type-same (s.storage ++ r.opaque_entries.items) u.storage
        (subst (AllZip (λ (d f : OpaqueTypeKey × Ty). IsSameKey d.0 f.0) (s.storage ++ r.opaque_entries.items)) storage-whole
        (keys-after (bindings_of u) s.storage (drop (length s.storage) u.storage) r.opaque_entries.items
        (subst (λ (m : Mark). AllZip (IsEntryOf (bindings_of u)) (drop m.storage u.storage) r.opaque_entries.items) marked listed.entries)))
        keyed;
  } where
    storage-whole : s.storage ++ drop (length s.storage) u.storage ≡ u.storage
    storage-whole = ap (λ es. es ++ drop (length s.storage) u.storage) (sym back.storage) ∙ take-append-drop (length s.storage) u.storage

  pub listed-applies : IsApplicable z r
  listed-applies = subst (λ (y : State). IsApplicable y r) (sym e) restored-applies

-- a quiet answer can be applied to what a call left as it was, once its value can be given
pub quiet-applies-after : (a z : State) (x : Result Response Fault) → z ≡ restored a z → HasOneTypeAKey a.storage → AnswersQuietly (length (kinds_of a)) x →
    IfOk x (λ r. CanBeListed z r.var_values.items → IsApplicable z r)
quiet-applies-after a z (Err f) e keyed quiet = tt
quiet-applies-after a z (Ok r) e keyed quiet = λ values.
    quiet-applies z r (subst HasOneTypeAKey (sym (ap (λ (s : State). s.storage) e)) keyed)
    (quiet.0 ∙ ap (λ (s : State). length (kinds_of s)) (sym e), quiet.1, quiet.2, quiet.3)
    (subst (λ (s : State). CanBeListed s r.var_values.items) (sym (with_nothing z)) values)
