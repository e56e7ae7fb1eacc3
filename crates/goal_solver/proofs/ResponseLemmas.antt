-- What applying a response does, list by list.
use Rattle.std.proofs.Common.{◌≡◌, ℕ, zero, suc, ◌+◌, ◌<◌, ◌≤◌, List, [], ◌∷◌, ◌++◌, length, take, drop, get_or, Some, refl, sym, ap, ◌∙◌, subst, inl, inr, arith, append_assoc}
use Rattle.std.specs.Prelude.{IsTrue, slice_get}
use Rattle.std.specs.List.{AllZip}
use Rattle.std.proofs.lemmas.Bool.{cases_lt, false≢true}
use Rattle.std.proofs.lemmas.List.{at_drop_more, at_drop_all, append-nil}
use Rattle.goal_terms.specs.Tree.{Tree}
use Rattle.goal_terms.specs.TreeOf.{tree_of_term}
use Rattle.goal_terms.specs.declared.answers.OpaqueTypeKey.{OpaqueTypeKey}
use Rattle.goal_terms.specs.declared.answers.Response.{Response}
use Rattle.goal_terms.specs.declared.answers.VarKind.{VarKind}
use Rattle.goal_terms.specs.declared.answers.VarKind.TheVariants as kind
use Rattle.goal_terms.specs.declared.heads.Variable.{Variable}
use Rattle.goal_terms.specs.declared.heads.Variable.TheVariants as variables
use Rattle.goal_terms.specs.declared.terms.InferTy.TheVariants as infer
use Rattle.goal_terms.specs.declared.terms.Region.{Region}
use Rattle.goal_terms.specs.declared.terms.Term.{Term}
use Rattle.goal_terms.specs.declared.terms.Ty.{Ty}
use Rattle.goal_infer.specs.Replacement.{number_of, kind_of_variable}
use Rattle.goal_infer.specs.Unification.{is_made_in}
use Rattle.goal_infer.specs.declared.undo.InferVariable.{InferVariable}
use Rattle.goal_infer.proofs.KindLemmas.{variable-is, same_var_kind-true}
use Rattle.goal_infer.proofs.UnifyLemmas.{made-get, made-beyond}
use Rattle.goal_solver.specs.Binding.{IsFreeFor, BindsTo, CanBeListed, GetValues, IsSameEntry, EntersAll, Applies, AppliesAside, with_equations, with_entries}
use Rattle.goal_solver.specs.Relating.{ChangesInference}
use Rattle.goal_solver.specs.State.{State}
use Rattle.goal_solver.specs.Stored.{HasOneTypeAKey, IsSameKey}
use Rattle.goal_solver.specs.Variables.{with_variables}
use Rattle.goal_kinds.proofs.ClassRuleLemmas.{take-more}
use Rattle.goal_solver.proofs.StoredLemmas.{apart-taken}

-- a variable that was made is one of those that there are
pub made-below : (o s : State) (v : Variable) (n : ℕ) → o ≡ s → number_of v ≡ n → IsTrue (is_made_in s.inference v) → n < length o.inference.variables
made-below o s v n e h m =
    subst (λ (k : ℕ). k < length o.inference.variables) h
    (elim (cases_lt (number_of v) (length o.inference.variables)) [
      | inl l ↦ l
      | inr l ↦ absurd (false≢true (made-beyond o.inference v l ∙ ap (λ (a : State). is_made_in a.inference v) e ∙ m))
    ])

-- it is of the kind that stands at its number
pub made-kind : (o s : State) (v : Variable) (n : ℕ) (x : InferVariable) → o ≡ s → slice_get o.inference.variables n ≡ Some x →
    number_of v ≡ n → IsTrue (is_made_in s.inference v) → x.kind ≡ kind_of_variable v
made-kind o s v n x e g h m =
    same_var_kind-true x.kind (kind_of_variable v)
    (made-get o.inference v x (ap (slice_get o.inference.variables) h ∙ g) ∙ ap (λ (a : State). is_made_in a.inference v) e ∙ m)

-- so it is the one of that number and kind
pub made-variable : (o s : State) (w v : Variable) (n : ℕ) (x : InferVariable) → o ≡ s → slice_get o.inference.variables n ≡ Some x →
    number_of w ≡ n → x.kind ≡ kind_of_variable w → number_of v ≡ n → IsTrue (is_made_in s.inference v) → w ≡ v
made-variable o s w v n x e g p q h m = variable-is w v (p ∙ sym h) (sym q ∙ made-kind o s v n x e g h m)

-- none is a lifetime's
pub no_lifetime : (v : Variable) → kind.Region ≡ kind_of_variable v → ⊥
no_lifetime (variables.Ty (infer.TyVar n)) e = absurd (cc)
no_lifetime (variables.Ty (infer.IntVar n)) e = absurd (cc)
no_lifetime (variables.Ty (infer.FloatVar n)) e = absurd (cc)
no_lifetime (variables.Const n) e = absurd (cc)

-- one more element of a list
take-here : {A : Type 0} (xs : List A) (i : ℕ) (x : A) → i < length xs → x ≡ get_or xs i x → take (i + 1) xs ≡ take i xs ++ x ∷ []
take-here xs i x l at = take-more xs i x l ∙ ap (λ y. take i xs ++ y ∷ []) (sym at)

drop-here : {A : Type 0} (xs : List A) (i : ℕ) (x : A) → i < length xs → x ≡ get_or xs i x → drop i xs ≡ x ∷ drop (i + 1) xs
drop-here xs i x l at = at_drop_more (λ ys. ys) xs i x l ∙ ap (λ y. y ∷ drop (i + 1) xs) (sym at)

-- equations are added in any pieces
equations-further : (s a b : State) (es fs : List (Region × Region)) → a ≡ with_equations es s → b ≡ with_equations fs a → b ≡ with_equations (es ++ fs) s
equations-further s a b es fs e g =
    g ∙ ap (with_equations fs) e ∙ ap (λ gs. record s { inference = record s.inference { equations = gs } }) (append_assoc s.inference.equations es fs)

pub equations-none : (s : State) → s ≡ with_equations [] s
equations-none s = sym (ap (λ gs. record s { inference = record s.inference { equations = gs } }) (append-nil s.inference.equations))

pub equations-more : (s a b : State) (es : List (Region × Region)) (i : ℕ) (d : Region × Region) → i < length es → a ≡ with_equations (take i es) s →
    b ≡ with_equations (get_or es i d ∷ []) a → b ≡ with_equations (take (i + 1) es) s
equations-more s a b es i d l e g =
    equations-further s a b (take i es) (get_or es i d ∷ []) e g ∙ ap (λ ms. with_equations ms s) (sym (take-more es i d l))

-- the values from a place on can be given
pub listed-here : (s : State) (ps : List (ℕ × Term)) (i : ℕ) (p : ℕ × Term) → i < length ps → p ≡ get_or ps i p → CanBeListed s (drop i ps) → CanBeListed s (p ∷ drop (i + 1) ps)
listed-here s ps i p l at h = subst (CanBeListed s) (drop-here ps i p l at) h

-- so the first of them can, and the others after it
pub listed-first : (s : State) (p : ℕ × Term) (ps : List (ℕ × Term)) → CanBeListed s (p ∷ ps) → (v : Variable) × (number_of v ≡ p.0) × IsFreeFor s (tree_of_term p.1) v
unfolding CanBeListed
listed-first s p ps h = (h.0, h.1, h.2)

pub listed-rest : (s : State) (p : ℕ × Term) (ps : List (ℕ × Term)) (h : CanBeListed s (p ∷ ps)) (z : State) → BindsTo s z (tree_of_term p.1) (listed-first s p ps h).0 → CanBeListed z ps
unfolding CanBeListed listed-first
listed-rest s p ps h z b = h.3 z b

pub listed-free : (s : State) (p : ℕ × Term) (ps : List (ℕ × Term)) (h : CanBeListed s (p ∷ ps)) (w : Variable) (t : Tree) → t ≡ tree_of_term p.1 → w ≡ (listed-first s p ps h).0 →
    IsFreeFor s t w
listed-free s p ps h w t e g = subst (IsFreeFor s t) (sym g) (subst (λ u. IsFreeFor s u (listed-first s p ps h).0) (sym e) (listed-first s p ps h).2)

pub listed-bound : (s z : State) (p : ℕ × Term) (ps : List (ℕ × Term)) (h : CanBeListed s (p ∷ ps)) (w : Variable) (t : Tree) → t ≡ tree_of_term p.1 → w ≡ (listed-first s p ps h).0 →
    BindsTo s z t w → BindsTo s z (tree_of_term p.1) (listed-first s p ps h).0
listed-bound s z p ps h w t e g b = subst (BindsTo s z (tree_of_term p.1)) g (subst (λ u. BindsTo s z u w) e b)

-- and if these get their values, all do
pub given-here : (s z : State) (ps : List (ℕ × Term)) (i : ℕ) (p : ℕ × Term) → i < length ps → p ≡ get_or ps i p → GetValues s z (p ∷ drop (i + 1) ps) → GetValues s z (drop i ps)
given-here s z ps i p l at h = subst (GetValues s z) (sym (drop-here ps i p l at)) h

pub given-first : (s y z : State) (p : ℕ × Term) (ps : List (ℕ × Term)) (v : Variable) → number_of v ≡ p.0 → BindsTo s y (tree_of_term p.1) v → GetValues y z ps → GetValues s z (p ∷ ps)
unfolding GetValues
given-first s y z p ps v e b g = (v, y, e, b, g)

pub given-none : (s : State) (ps : List (ℕ × Term)) (i : ℕ) → length ps ≤ i → GetValues s s (drop i ps)
unfolding GetValues
given-none s ps i l = subst (GetValues s s) (sym (at_drop_all (λ qs. qs) ps i l)) (refl, refl)

-- giving values changes inference alone
pub given-alone : (s z : State) (ps : List (ℕ × Term)) → GetValues s z ps → ChangesInference s z
unfolding GetValues
given-alone s z [] g = g.0
given-alone s z (p ∷ ps) g =
    given-alone g.1 z ps g.4 ∙ ap (λ (a : State). record a { terms = z.terms; inference = z.inference }) g.3.alone

-- lists with the same keys, place by place
one_key : (es fs : List (OpaqueTypeKey × Ty)) → AllZip IsSameEntry es fs → (i : ℕ) (e : OpaqueTypeKey × Ty) → slice_get es i ≡ Some e →
    (f : OpaqueTypeKey × Ty) × (slice_get fs i ≡ Some f) × IsSameKey e.0 f.0
one_key [] [] h i e g = absurd (cc)
one_key [] (f ∷ fs) h i e g = absurd h
one_key (x ∷ es) [] h i e g = absurd h
one_key (x ∷ es) (f ∷ fs) h zero e g = (f, refl, let same : x ≡ e = cc in subst (λ (y : OpaqueTypeKey × Ty). IsSameKey y.0 f.0) same h.0.0)
one_key (x ∷ es) (f ∷ fs) h (suc i) e g = one_key es fs h.1 i e g

pub keys-same : (es fs : List (OpaqueTypeKey × Ty)) → AllZip IsSameEntry es fs → HasOneTypeAKey fs → HasOneTypeAKey es
keys-same es fs h one i j x y p q r =
    let a = one_key es fs h i x p in
    let b = one_key es fs h j y q in
    one i j a.0 b.0 a.1 b.1 (sym a.2.0 ∙ r.0 ∙ b.2.0, sym a.2.1 ∙ r.1 ∙ b.2.1)

zip-itself : (es : List (OpaqueTypeKey × Ty)) → AllZip IsSameEntry es es
zip-itself [] = tt
zip-itself (e ∷ es) = (((refl, refl), refl), zip-itself es)

zip-append : (es fs gs hs : List (OpaqueTypeKey × Ty)) → AllZip IsSameEntry es fs → AllZip IsSameEntry gs hs → AllZip IsSameEntry (es ++ gs) (fs ++ hs)
zip-append [] [] gs hs p q = q
zip-append [] (f ∷ fs) gs hs p q = absurd p
zip-append (e ∷ es) [] gs hs p q = absurd p
zip-append (e ∷ es) (f ∷ fs) gs hs p q = (p.0, zip-append es fs gs hs p.1 q)

take-append : {A : Type 0} (xs ys : List A) (i : ℕ) → take (length xs + i) (xs ++ ys) ≡ xs ++ take i ys
take-append [] ys i = ap (λ n. take n ys) (omega arith)
take-append (x ∷ xs) ys i =
    let more : length (x ∷ xs) + i ≡ suc (length xs + i) = omega arith in
    ap (λ n. take n (x ∷ (xs ++ ys))) more ∙ ap (λ zs. x ∷ zs) (take-append xs ys i)

-- the next has no type yet
pub entry-free : (s a : State) (fs : List (OpaqueTypeKey × Ty)) (i : ℕ) (f : OpaqueTypeKey × Ty) → i < length fs → f ≡ get_or fs i f → EntersAll s a (take i fs) →
    HasOneTypeAKey (s.storage ++ fs) → HasOneTypeAKey (a.storage ++ f ∷ [])
entry-free s a fs i f l at so_far one =
    let cut : take (length s.storage + (i + 1)) (s.storage ++ fs) ≡ s.storage ++ (take i fs ++ f ∷ []) =
    take-append s.storage fs (i + 1) ∙ ap (λ gs. s.storage ++ gs) (take-here fs i f l at) in
    let few : HasOneTypeAKey (s.storage ++ (take i fs ++ f ∷ [])) =
    apart-taken (λ (d e : OpaqueTypeKey × Ty). IsSameKey d.0 e.0) (length s.storage + (i + 1)) (s.storage ++ fs) _ (sym cut) one in
    let zipped : AllZip IsSameEntry (s.storage ++ (so_far.entered ++ f ∷ [])) (s.storage ++ (take i fs ++ f ∷ [])) =
    zip-append s.storage s.storage _ _ (zip-itself s.storage) (zip-append so_far.entered (take i fs) _ _ so_far.entries (zip-itself (f ∷ []))) in
    let same : HasOneTypeAKey (s.storage ++ (so_far.entered ++ f ∷ [])) = keys-same _ _ zipped few in
    subst HasOneTypeAKey (sym (ap (λ (z : State). z.storage ++ f ∷ []) so_far.is ∙ append_assoc s.storage so_far.entered (f ∷ []))) same

pub entries-none : (s : State) → EntersAll s s []
entries-none s = record { entered = []; entries = tt; is = sym (ap (λ es. record s { storage = es }) (append-nil s.storage)) }

pub entries-more : (s a b : State) (fs : List (OpaqueTypeKey × Ty)) (i : ℕ) (f e : OpaqueTypeKey × Ty) → i < length fs → f ≡ get_or fs i f → EntersAll s a (take i fs) →
    IsSameEntry e f → b ≡ with_entries (e ∷ []) a → EntersAll s b (take (i + 1) fs)
entries-more s a b fs i f e l at so_far same g = record {
  entered = so_far.entered ++ e ∷ [];
  entries = subst (AllZip IsSameEntry (so_far.entered ++ e ∷ [])) (sym (take-here fs i f l at)) (zip-append so_far.entered (take i fs) (e ∷ []) (f ∷ []) so_far.entries (same, tt));
  is = g ∙ ap (with_entries (e ∷ [])) so_far.is ∙ ap (λ es. record s { storage = es }) (append_assoc s.storage so_far.entered (e ∷ []));
}

-- the hidden type that is entered had none before
pub entry-pushed : (es fs : List (OpaqueTypeKey × Ty)) (e f : OpaqueTypeKey × Ty) → fs ≡ es ++ e ∷ [] → IsSameEntry e f → HasOneTypeAKey (es ++ f ∷ []) → HasOneTypeAKey fs
entry-pushed es fs e f h same one = subst HasOneTypeAKey (sym h) (keys-same _ _ (zip-append es es (e ∷ []) (f ∷ []) (zip-itself es) (same, tt)) one)

-- hidden types are the same until some are entered
pub storage-kept : (s a b z : State) (ks : List VarKind) (ps : List (ℕ × Term)) (es : List (Region × Region)) → a ≡ with_variables ks s → GetValues a b ps → z ≡ with_equations es b →
    z.storage ≡ s.storage
storage-kept s a b z ks ps es e g h =
    ap (λ (x : State). x.storage) h ∙ ap (λ (x : State). x.storage) (given-alone a b ps g) ∙ ap (λ (x : State). x.storage) e

-- three lists are applied
pub applies-aside : (s a b d : State) (r : Response) (ks : List VarKind) (ps : List (ℕ × Term)) (es : List (Region × Region)) → ks ≡ r.vars.items → ps ≡ r.var_values.items → es ≡ r.region_equations.items →
    a ≡ with_variables ks s → GetValues a b ps → d ≡ with_equations es b → AppliesAside s d r
applies-aside s a b d r ks ps es k p q e g h = record {
  valued = b;
  values = subst (λ x. GetValues x b r.var_values.items) (e ∙ ap (λ ms. with_variables ms s) k) (subst (GetValues a b) p g);
  equated = h ∙ ap (λ gs. with_equations gs b) q;
}

-- and then the fourth
pub applies-all : (s d z : State) (r : Response) (fs : List (OpaqueTypeKey × Ty)) → fs ≡ r.opaque_entries.items → AppliesAside s d r → EntersAll d z fs → Applies s z r
applies-all s d z r fs f aside n = record {
  valued = aside.valued;
  values = aside.values;
  entered = subst (λ x. EntersAll x z r.opaque_entries.items) aside.equated (subst (EntersAll d z) f n);
}

-- which are entered then
pub aside-storage : (s d : State) (r : Response) → AppliesAside s d r → d.storage ≡ s.storage
aside-storage s d r aside = storage-kept s (with_variables r.vars.items s) aside.valued d r.vars.items r.var_values.items r.region_equations.items refl aside.values aside.equated

-- no hidden type that is entered then has one
pub entries-free : (s z : State) (fs gs : List (OpaqueTypeKey × Ty)) → z.storage ≡ s.storage → fs ≡ gs → HasOneTypeAKey (s.storage ++ gs) → HasOneTypeAKey (z.storage ++ fs)
entries-free s z fs gs e h one = subst (λ es. HasOneTypeAKey (es ++ fs)) (sym e) (subst (λ es. HasOneTypeAKey (s.storage ++ es)) (sym h) one)
