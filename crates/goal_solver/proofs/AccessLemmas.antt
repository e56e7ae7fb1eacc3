-- The accesses that a call records have their cause in the tables.
use Rattle.std.proofs.Common.{◌≡◌, ◌⊎◌, ◌<◌, ℕ, List, length, get_or, Result, Ok, Err, inl, inr, sym, ap, ◌∙◌, subst, ⊎_elim}
use Rattle.std.specs.Prelude.{IfErr}
use Rattle.std.specs.List.{All, Contains}
use Rattle.std.proofs.lemmas.List.Elements.{All-contains, Contains-get_or, Contains-push_cases}
use Rattle.goal_terms.specs.declared.answers.OpaqueAccess.{OpaqueAccess}
use Rattle.goal_terms.specs.declared.modes.TypingMode.{TypingMode}
use Rattle.goal_terms.specs.declared.modes.TypingMode.TheVariants as mode
use Rattle.goal_tables.specs.declared.rows.Tables.{Tables}
use Rattle.goal_lists.specs.Causes.{IsCaused}
use Rattle.goal_solver.specs.Accesses.{RecordsCaused, EndsFor}
use Rattle.goal_eval.specs.Entering.{Enters}
use Rattle.goal_solver.specs.Added.{RecordsAccess}
use Rattle.goal_eval.specs.Effects.{EndsIn}
use Rattle.goal_solver.specs.GoingBack.{GoesBack}
use Rattle.goal_solver.specs.State.{State}
use Rattle.goal_eval.specs.declared.eval.outcomes.Stop.{Stop}
use Rattle.goal_eval.specs.declared.eval.outcomes.Stop.TheVariants as stop

-- where the accesses are as before
pub none-recorded : (a b : State) → b.accesses ≡ a.accesses → RecordsCaused a b
unfolding RecordsCaused
none-recorded a b e x h = inl (subst (λ ys. Contains ys x) e h)

pub ruleset recording = (none-recorded)

-- where those have come that are in a list of accesses with causes
pub all-recorded : (t : Tables) (a b : State) (xs : List OpaqueAccess) → t ≡ a.tables → All (IsCaused t) xs →
    ((y : OpaqueAccess) → Contains b.accesses y → Contains a.accesses y ⊎ Contains xs y) → RecordsCaused a b
unfolding RecordsCaused
all-recorded t a b xs e caused listed y h = ⊎_elim (λ k. inl k) (λ k. inr (subst (λ u. IsCaused u y) e (All-contains (IsCaused t) xs y caused k))) (listed y h)

-- where one has come that has a cause
pub one-recorded : (a b : State) (x : OpaqueAccess) → IsCaused a.tables x → ((y : OpaqueAccess) → Contains b.accesses y → Contains a.accesses y ⊎ (x ≡ y)) → RecordsCaused a b
unfolding RecordsCaused
one-recorded a b x caused listed y h = ⊎_elim (λ k. inl k) (λ k. inr (subst (IsCaused a.tables) k caused)) (listed y h)

-- one call after another
pub recorded-then : (a b c : State) → b.tables ≡ a.tables → RecordsCaused a b → RecordsCaused b c → RecordsCaused a c
unfolding RecordsCaused
recorded-then a b c e f g y h = ⊎_elim (λ k. f y k) (λ k. inr (subst (λ t. IsCaused t y) e k)) (g y h)

-- an evaluation that ends in a context ends so in one with the same tables and mode
pub ends-same : (t u : Tables) (m k : TypingMode) (e : Stop) → t ≡ u → m ≡ k → EndsIn t m e → EndsIn u k e
ends-same t u m k e f g h = subst (λ v. EndsIn v k e) f (subst (λ n. EndsIn t n e) g h)

pub ends-here : {T : Type 0} (t u : Tables) (m k : TypingMode) (r : Result T Stop) → t ≡ u → m ≡ k → IfErr r (EndsIn t m) → IfErr r (EndsIn u k)
ends-here t u m k (Ok x) f g h = tt
ends-here t u m k (Err e) f g h = ends-same t u m k e f g h

-- what an evaluation met is recorded in the context that it is in
pub run-recorded : (t : Tables) (v a b : State) (old xs : List OpaqueAccess) → v ≡ a → old ≡ v.accesses → t ≡ v.tables → All (IsCaused t) xs →
    ((y : OpaqueAccess) → Contains b.accesses y → Contains old y ⊎ Contains xs y) → RecordsCaused a b
run-recorded t v a b old xs same e f caused listed =
    all-recorded t a b xs (f ∙ ap (λ (s : State). s.tables) same) caused
    (λ y h. ⊎_elim (λ k. inl (subst (λ ys. Contains ys y) (e ∙ ap (λ (s : State). s.accesses) same) k)) (λ k. inr k) (listed y h))

-- the next access of a list is recorded
pub listed-next : (xs old mid new : List OpaqueAccess) (i : ℕ) (x : OpaqueAccess) → i < length xs → ((a : OpaqueAccess) → Contains mid a → Contains old a ⊎ Contains xs a) →
    ((a : OpaqueAccess) → Contains new a → Contains mid a ⊎ (get_or xs i x ≡ a)) → (a : OpaqueAccess) → Contains new a → Contains old a ⊎ Contains xs a
listed-next xs old mid new i x l f g a h = ⊎_elim (λ k. f a k) (λ e. inr (subst (Contains xs) e (Contains-get_or xs i x l))) (g a h)

-- what has entered a set stood there already, or is what entered
entered-listed : (x : OpaqueAccess) (old new : List OpaqueAccess) → Enters x old new → (y : OpaqueAccess) → Contains new y → Contains old y ⊎ (x ≡ y)
entered-listed x old new e y h =
    ⊎_elim (λ p. inl (subst (λ ys. Contains ys y) p.1 h)) (λ p. Contains-push_cases old x y (subst (λ ys. Contains ys y) p.1 h)) e

-- the access at which an evaluation in the erased mode ended is recorded
pub end-recorded : (a b : State) (x : OpaqueAccess) (e : Stop) → e ≡ stop.ReadsMode x → a.typing_mode ≡ mode.ErasedNotCoherence → EndsFor a e →
    ((y : OpaqueAccess) → Contains b.accesses y → Contains a.accesses y ⊎ (x ≡ y)) → RecordsCaused a b
end-recorded a b x e is erased h listed = one-recorded a b x ((subst (EndsFor a) is h).1 erased) listed

pub entry-recorded : (a b : State) (x : OpaqueAccess) (e : Stop) → e ≡ stop.ReadsMode x → a.typing_mode ≡ mode.ErasedNotCoherence → EndsFor a e → RecordsAccess x a b → RecordsCaused a b
entry-recorded a b x e is erased h r = end-recorded a b x e is erased h (entered-listed x a.accesses b.accesses r.0)

-- after an evaluation, what is answered where it ended
pub recorded-stopped : (a b c : State) (e : Stop) → GoesBack a b → RecordsCaused a b → EndsFor a e → (EndsFor b e → RecordsCaused b c) → RecordsCaused a c
recorded-stopped a b c e g f h k = recorded-then a b c g.tables f (k (ends-same a.tables b.tables a.typing_mode b.typing_mode e (sym g.tables) (sym g.typing_mode) h))

pub recorded-concluded : {T : Type 0} (a b c : State) (r : Result T Stop) → GoesBack a b → RecordsCaused a b → IfErr r (EndsFor a) → (IfErr r (EndsFor b) → RecordsCaused b c) → RecordsCaused a c
recorded-concluded a b c r g f h k =
    recorded-then a b c g.tables f (k (ends-here a.tables b.tables a.typing_mode b.typing_mode r (sym g.tables) (sym g.typing_mode) h))

-- an evaluation that ends after another one ends in the context before both
pub ends-before : {T : Type 0} (a b : State) (r : Result T Stop) → GoesBack a b → IfErr r (EndsFor b) → IfErr r (EndsFor a)
ends-before a b r g h = ends-here b.tables a.tables b.typing_mode a.typing_mode r g.tables g.typing_mode h

-- where a run ended and another one went on
pub recorded-rerun : {T : Type 0} (a b c d : State) (r : Result T Stop) → GoesBack a b → GoesBack b c → RecordsCaused a b → IfErr r (EndsFor a) → (IfErr r (EndsFor b) → RecordsCaused b c) →
    RecordsCaused c d → RecordsCaused a d
recorded-rerun a b c d r g h f ends k l = recorded-then a c d (h.tables ∙ g.tables) (recorded-concluded a b c r g f ends k) l
