-- The lists of inherent aliases, by what is there.
use Rattle.std.proofs.Common.{◌≡◌, List, [], ◌∷◌, Option, Some, None, sym, ap, ap₂, ◌∙◌}
use Rattle.goal_terms.specs.Tree.{Tree}
use Rattle.goal_tables.specs.Rows.{inherent_impl_of}
use Rattle.goal_tables.specs.declared.rows.InherentImplRow.{InherentImplRow}
use Rattle.goal_tables.specs.declared.rows.InherentRow.{InherentRow}
use Rattle.goal_lists.specs.AliasLists.{entries_of_row, inherent_list, inherent_alias_list}
use Rattle.goal_lists.specs.Entries.{Entry, undecided}
use Rattle.goal_lists.specs.Settings.{Setting}

pub no-self : (S : Setting) (r : Option InherentRow) (args : List Tree) (es : List Entry) → args ≡ [] → es ≡ undecided ∷ [] → es ≡ inherent_alias_list S r args
unfolding inherent_alias_list
no-self S r args es none made = made ∙ ap (inherent_alias_list S r) (sym none)

pub no-row : (S : Setting) (r : Option InherentRow) (args : List Tree) (self : Tree) (own : List Tree) (es : List Entry) → args ≡ self ∷ own → None ≡ r →
    es ≡ undecided ∷ [] → es ≡ inherent_alias_list S r args
unfolding inherent_alias_list entries_of_row
no-row S r args self own es are none made = made ∙ ap₂ (λ q ts. inherent_alias_list S q ts) none (sym are)

pub no-impl : (S : Setting) (r : Option InherentRow) (args : List Tree) (self : Tree) (own : List Tree) (i : InherentRow) (es : List Entry) → args ≡ self ∷ own →
    Some i ≡ r → None ≡ inherent_impl_of S.tables i.impl_id → es ≡ undecided ∷ [] → es ≡ inherent_alias_list S r args
unfolding inherent_alias_list entries_of_row
no-impl S r args self own i es are some none made =
    made ∙ ap (λ o. entries_of_row o (inherent_list self own i)) none ∙ ap₂ (λ q ts. inherent_alias_list S q ts) some (sym are)

pub all-there : (S : Setting) (r : Option InherentRow) (args : List Tree) (self : Tree) (own : List Tree) (i : InherentRow) (q : InherentImplRow) (es : List Entry) →
    args ≡ self ∷ own → Some i ≡ r → Some q ≡ inherent_impl_of S.tables i.impl_id → es ≡ inherent_list self own i q → es ≡ inherent_alias_list S r args
unfolding inherent_alias_list entries_of_row
all-there S r args self own i q es are some there made =
    made ∙ ap (λ o. entries_of_row o (inherent_list self own i)) there ∙ ap₂ (λ k ts. inherent_alias_list S k ts) some (sym are)
