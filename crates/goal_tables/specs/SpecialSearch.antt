-- How the impls are found that are more special than one.
use Rattle.std.specs.Prelude.{◌≡◌, ◌+◌, ◌<◌, ◌≤◌, ℕ, suc, Bool, true, false, List, [], ◌∷◌, ◌++◌, length, get_or, slice_get, slice_index_or, Some}
use Rattle.std.specs.List.{All, Contains}
use Rattle.goal_tables.specs.Indexed.{IsReachedAt, StandsAmong}
use Rattle.goal_tables.specs.Specialized.{listed_by}
use Rattle.goal_tables.specs.declared.rows.ImplRow.{ImplRow}
use Rattle.goal_tables.specs.declared.rows.Tables.{Tables}
use Rattle.goal_tables.specs.declared.specialized.Search.{Search}

-- how many marks aren't set
unfoldable pub unmarked : List Bool → ℕ
unmarked [] = 0
unmarked (true ∷ bs) = unmarked bs
unmarked (false ∷ bs) = suc (unmarked bs)

-- a search over some number of impls: what is marked was found
pub record IsSearch (n : ℕ) (s : Search) : Type 0 where
  pub length : length s.marks.items ≡ n
  pub marked : (p : ℕ) → slice_index_or s.marks.items p false ≡ true → Contains s.found.items p

-- for the impl at a place, while a search goes on
abbrev pub IfSearchedAt : Tables → ℕ → Search → (ImplRow → Type 0) → Type 0
IfSearchedAt t p s P = (q : ImplRow) → IsSearch (length t.impls.items) s → slice_get t.impls.items p ≡ Some q → P q

-- the impl of a list stands at a place
abbrev pub IsOfList : Tables → List ImplRow → ℕ → Type 0
IsOfList t qs p = (q : ImplRow) × (slice_get t.impls.items p ≡ Some q) × Contains qs q

-- a search finds the impls of a list: what it adds are such, and all of them are found then; each that is new takes a mark
pub record Finds (t : Tables) (qs : List ImplRow) (s u : Search) : Type 0 where
  pub valid : IsSearch (length t.impls.items) u
  pub new : List ℕ
  pub found : u.found.items ≡ s.found.items ++ new
  pub balance : length u.found.items + unmarked u.marks.items ≡ length s.found.items + unmarked s.marks.items
  pub sound : All (IsOfList t qs) new
  pub whole : All (StandsAmong t.impls.items u.found.items) qs

-- the lists lead from an impl to all that was found, in no more steps than what was found before; what it lists was found, and what the first of the found ones list
pub record Follows (t : Tables) (r : ImplRow) (i : ℕ) (s : Search) : Type 0 where
  pub valid : IsSearch (length t.impls.items) s
  pub balance : length s.found.items + unmarked s.marks.items ≡ length t.impls.items
  pub within : i ≤ length s.found.items
  pub sound : (j : ℕ) → j < length s.found.items → IsReachedAt t r j (get_or s.found.items j 0)
  pub listed : All (StandsAmong t.impls.items s.found.items) (listed_by t r)
  pub followed :
      (j : ℕ) (q : ImplRow) → j < i → slice_get t.impls.items (get_or s.found.items j 0) ≡ Some q
      → All (StandsAmong t.impls.items s.found.items) (listed_by t q)
