-- Impls that specialize others: which are more special than an impl.
use Rattle.std.specs.Prelude.{ℕ, zero, suc, Bool, false, ◌==◌, ◌||◌, List, [], ◌∷◌, ◌++◌, length, Option, Some, None}
use Rattle.std.specs.List.{list_any}
use Rattle.goal_terms.specs.declared.ids.ImplId.{ImplId}
use Rattle.goal_tables.specs.Rows.{impl_of}
use Rattle.goal_tables.specs.declared.rows.ImplRow.{ImplRow}
use Rattle.goal_tables.specs.declared.rows.Tables.{Tables}

-- a row, if there is one
abbrev pub if_row : Option ImplRow → List ImplRow
if_row None = []
if_row (Some r) = r ∷ []

-- the rows of some impls
unfoldable pub rows_named : Tables → List ImplId → List ImplRow
rows_named t [] = []
rows_named t (i ∷ is) = if_row (impl_of t i) ++ rows_named t is

-- the impls that an impl lists as more special
abbrev pub listed_by : Tables → ImplRow → List ImplRow
listed_by t r = rows_named t r.more_special.items

-- those that some impls list
unfoldable pub listed_by_all : Tables → List ImplRow → List ImplRow
listed_by_all t [] = []
listed_by_all t (r ∷ rs) = listed_by t r ++ listed_by_all t rs

-- the impls to which the lists lead from an impl in one step, and in one step more than a number of steps
unfoldable pub reached : Tables → ℕ → ImplRow → List ImplRow
reached t zero r = listed_by t r
reached t (suc n) r = listed_by_all t (reached t n r)

-- the lists lead from an impl back to it, in fewer steps than a number of them and one
unfoldable pub leads_back : Tables → ℕ → ImplRow → Bool
leads_back t zero r = false
leads_back t (suc n) r = list_any (λ q. q.id.0 == r.id.0) (reached t n r) || leads_back t n r

-- an impl is more special than itself; no way without a turn has more steps than there are impls
unfoldable pub specialization_cycle : Tables → Bool
specialization_cycle t = list_any (λ r. leads_back t (length t.impls.items) r) t.impls.items
