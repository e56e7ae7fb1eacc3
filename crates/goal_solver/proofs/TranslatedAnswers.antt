-- What the arguments of another impl come to, from one call to the next.
use Rattle.std.proofs.Common.{◌≡◌, Bool, false, List, [], ◌∷◌, ◌++◌, length, map, Option, Some, None, Result, Ok, Err, Vec, refl, sym, ap, ◌∙◌, subst, append_assoc}
use Rattle.std.specs.Global.{Global}
use Rattle.std.specs.Prelude.{◌==◌, if◌then◌else◌}
use Rattle.std.proofs.lemmas.List.{append-nil, map-append}
use Rattle.goal_terms.specs.Erased.{erased}
use Rattle.goal_terms.specs.Folding.{instance}
use Rattle.goal_interner.specs.TableMeaning.{Keeps}
use Rattle.goal_terms.specs.Tree.{Tree}
use Rattle.goal_terms.specs.TreeOf.{trees_of}
use Rattle.goal_terms.specs.declared.answers.Certainty.{Certainty}
use Rattle.goal_terms.specs.declared.answers.Certainty.TheVariants as certainty
use Rattle.goal_terms.specs.declared.answers.VarKind.{VarKind}
use Rattle.goal_terms.specs.declared.heads.Variable.{Variable}
use Rattle.goal_terms.specs.declared.ids.ImplId.{ImplId}
use Rattle.goal_terms.specs.declared.modes.TypingMode.{TypingMode}
use Rattle.goal_terms.specs.declared.predicates.Clause.{Clause}
use Rattle.goal_terms.specs.declared.predicates.TraitRef.{TraitRef}
use Rattle.goal_terms.specs.declared.terms.GenericArg.{GenericArg}
use Rattle.goal_tables.specs.Rows.{impl_of}
use Rattle.goal_tables.specs.declared.rows.Container.{Container}
use Rattle.goal_tables.specs.declared.rows.Container.TheVariants as container
use Rattle.goal_tables.specs.declared.rows.ImplRow.{ImplRow}
use Rattle.goal_infer.specs.Inference.{Inference}
use Rattle.goal_infer.specs.Replacement.{OfKinds}
use Rattle.goal_infer.specs.Resolution.{IsSolved}
use Rattle.goal_infer.proofs.SolvedLemmas.{agrees-kept, solved-more}
use Rattle.goal_lists.specs.Headers.{under}
use Rattle.goal_lists.specs.ImplTerms.{Taken, from_projection, from_impl, from_other}
use Rattle.goal_lists.specs.Level.{Level}
use Rattle.goal_lists.specs.TraitGoals.{header_of}
use Rattle.goal_lists.specs.Words.{Pairs}
use Rattle.goal_kinds.specs.declared.faults.Fault.{Fault}
use Rattle.goal_eval.specs.ErasedArgs.{erased_args}
use Rattle.goal_solver.specs.Answers.{IsOwed, level_over}
use Rattle.goal_solver.specs.Equating.{IsEquated, equation}
use Rattle.goal_solver.specs.Relating.{AgreesWith, Identifies, all_replaced, SaysYes, Refuses}
use Rattle.goal_solver.specs.State.{State, kinds_of}
use Rattle.goal_solver.specs.TranslatedArgs.{taken_by, certainty_in, IsTranslatedBy, fresh_for, with_fresh, IsMadeEqual, IsEqualUnder}
use Rattle.goal_solver.specs.Variables.{unbound, with_kinds, kind_for, fresh_args}
use Rattle.goal_solver.proofs.EquatedLemmas.{equated-grown}
use Rattle.goal_solver.proofs.TranslatedLemmas.{agrees-made, header-instance}

-- so many arguments after which others come
own-erased : (first args : List GenericArg) (own : List Tree) → trees_of args ≡ trees_of first ++ own → erased_args args ≡ erased_args first ++ map erased own
own-erased first args own e = ap (map erased) e ∙ map-append erased (trees_of first) own

own-more : (ts us fs own : List Tree) → us ≡ ts ++ own → ts ≡ fs ++ [] → us ≡ fs ++ own
own-more ts us fs own e h = e ∙ ap (λ zs. zs ++ own) (h ∙ append-nil fs)

pub own-translated : (L : Level) (q : ImplRow) (gs : List Tree) (first args : List GenericArg) (own : List Tree) (k : Certainty) → trees_of args ≡ trees_of first ++ own →
    IsTranslatedBy L q gs [] (erased_args first) k → IsTranslatedBy L q gs (map erased own) (erased_args args) k
own-translated L q gs first args own certainty.Yes e h = (h.0, h.1, own-more (erased_args first) (erased_args args) h.0 (map erased own) (own-erased first args own e) h.2)
own-translated L q gs first args own certainty.Maybe e h = λ s k. own-more (erased_args first) (erased_args args) s (map erased own) (own-erased first args own e) (h s k)

-- what a header under fresh variables was made equal to
module _ (a b z : State) (env : List Clause) (q : ImplRow) (r : TraitRef) (ls rs args : List GenericArg) (made : b ≡ with_fresh q a) (fresh : trees_of args ≡ fresh_for a q)
    (left : ls ≡ r.args.items) (right : trees_of rs ≡ map (instance (trees_of args)) (trees_of q.trait_args.items)) where
  header-trees : trees_of rs ≡ map (instance (fresh_for a q)) (trees_of q.trait_args.items)
  header-trees = right ∙ ap (λ ts. map (instance ts) (trees_of q.trait_args.items)) fresh

  header-erased : erased_args rs ≡ map (under (fresh_for a q)) (header_of q)
  header-erased = ap (map erased) header-trees ∙ header-instance (fresh_for a q) (trees_of q.trait_args.items)

  pub made-equal : (k : Certainty) (v : Vec GenericArg Global) → v.items ≡ args → IsEquated b z (equation env (trees_of ls) (trees_of rs)) (Ok k) → IsMadeEqual a z env q (trees_of r.args.items) [] (Ok (v, k))
  made-equal k v e h = (
    ap trees_of e ∙ fresh ∙ sym (append-nil (fresh_for a q)),
    subst (λ (s : State). IsEquated s z (equation env (trees_of r.args.items) (map (instance (fresh_for a q)) (trees_of q.trait_args.items))) (Ok k)) made
        (subst (λ ts. IsEquated b z (equation env (trees_of r.args.items) ts) (Ok k)) header-trees
        (subst (λ (xs : List GenericArg). IsEquated b z (equation env (trees_of xs) (trees_of rs)) (Ok k)) left h)),
  )

  pub never-made : (x : Result Certainty Fault) → (Refuses x → (ρ : Variable → Tree) → OfKinds ρ → AgreesWith b ρ → Identifies ρ (erased_args ls) (erased_args rs) → ⊥) →
      Refuses x → (ρ : Variable → Tree) → OfKinds ρ → AgreesWith a ρ → Identifies ρ (erased_args r.args.items) (map (under (fresh_args q.params.items (length (kinds_of a)))) (header_of q)) → ⊥
  never-made x h refuses ρ kinds agrees same =
      h refuses ρ kinds (subst (λ (s : State). AgreesWith s ρ) (sym made) (agrees-made a _ ρ agrees))
      (ap (λ (xs : List GenericArg). all_replaced ρ (erased_args xs)) left ∙ same ∙ ap (all_replaced ρ) (sym header-erased))

-- which says that they are equal under replacements that agree
pub equal-under : (a z : State) (env : List Clause) (q : ImplRow) (ts own : List Tree) (x : Result (Vec GenericArg Global × Certainty) Fault) → IsMadeEqual a z env q ts own x → (m : TypingMode) → IsOwed z m →
    SaysYes (certainty_in x) → (ρ : Variable → Tree) → AgreesWith z ρ → IsEqualUnder (level_over a m env) q ρ (map erased ts) own x
equal-under a z env q ts own (Ok v) h m owed says ρ agrees = (
  fresh_for a q,
  h.0,
  subst (λ us. Pairs (level_over a m env).equal (all_replaced ρ (map erased ts)) (all_replaced ρ us)) (header-instance (fresh_for a q) (trees_of q.trait_args.items)) (h.1.equal m owed says ρ agrees),
)
equal-under a z env q ts own (Err f) h m owed says ρ agrees = tt

-- a solved state is solved with unbound variables
solved-unbound : (T : List Tree) (ks : List VarKind) (s : Inference) → IsSolved T s → IsSolved T (with_kinds ks s)
solved-unbound T [] s solved = subst (λ vs. IsSolved T (record s { variables = vs })) (sym (append-nil s.variables)) solved
solved-unbound T (k ∷ ks) s solved =
    subst (λ vs. IsSolved T (record s { variables = vs })) (append_assoc s.variables (unbound k ∷ []) (map unbound ks))
    (solved-unbound T ks (record s { variables = s.variables ++ unbound k ∷ [] }) (solved-more T s (unbound k) refl solved))

-- what was made equal in a context in which more terms got their numbers first
module _ (a z : State) (env : List Clause) (q : ImplRow) (solved : IsSolved a.terms a.inference) where
  equal-grown : (T : List Tree) (ts own : List Tree) (x : Result (Vec GenericArg Global × Certainty) Fault) → Keeps a.terms T → IsMadeEqual (record a { terms = T }) z env q ts own x → IsMadeEqual a z env q ts own x
  equal-grown T ts own (Ok v) kept h = (
    h.0,
    equated-grown (with_fresh q a) T kept (solved-unbound a.terms (map kind_for q.params.items) a.inference solved) z env ts (map (instance (fresh_for a q)) (trees_of q.trait_args.items)) (Ok v.1) h.1,
  )
  equal-grown T ts own (Err f) kept h = tt

  pub made_equal-grown : (b : State) (ts own : List Tree) (x : Result (Vec GenericArg Global × Certainty) Fault) → b ≡ record a { terms = b.terms } → Keeps a.terms b.terms → IsMadeEqual b z env q ts own x → IsMadeEqual a z env q ts own x
  made_equal-grown b ts own x e kept h = equal-grown b.terms ts own x kept (subst (λ (s : State). IsMadeEqual s z env q ts own x) e h)

-- no replacement makes the sides the same, also of those that agreed before
pub never-grown : (a b : State) (q : ImplRow) (ts : List Tree) (x : Result Certainty Fault) → IsSolved a.terms a.inference → b ≡ record a { terms = b.terms } → Keeps a.terms b.terms →
    (Refuses x → (ρ : Variable → Tree) → OfKinds ρ → AgreesWith b ρ → Identifies ρ ts (map (under (fresh_args q.params.items (length (kinds_of b)))) (header_of q)) → ⊥) →
    Refuses x → (ρ : Variable → Tree) → OfKinds ρ → AgreesWith a ρ → Identifies ρ ts (map (under (fresh_args q.params.items (length (kinds_of a)))) (header_of q)) → ⊥
never-grown a b q ts x solved e kept h refuses ρ kinds agrees same =
    h refuses ρ kinds (subst (λ (s : State). AgreesWith s ρ) (sym e) ((agrees-kept a.terms b.terms a.inference kept solved ρ).1 agrees))
    (subst (λ (s : State). Identifies ρ ts (map (under (fresh_args q.params.items (length (kinds_of s)))) (header_of q))) (sym e) same)

-- the impl whose arguments are taken
row-in : Taken → Option ImplRow
row-in from_projection = None
row-in from_impl = None
row-in (from_other o) = o

pub taken-other : (s : State) (i j : ImplId) (k : Container) (q : ImplRow) → k ≡ container.Impl j → (j.0 == i.0) ≡ false → taken_by s i k ≡ from_other (Some q) → impl_of s.tables j ≡ Some q
unfolding row-in
taken-other s i j k q here other e =
    sym (ap (λ (b : Bool). row-in (if b then from_impl else from_other (impl_of s.tables j))) other) ∙ sym (ap (λ (x : Container). row-in (taken_by s i x)) here) ∙ ap row-in e
