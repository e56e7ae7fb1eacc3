-- Laws of putting trees for variables.
use Rattle.std.proofs.Common.{◌≡◌, ◌≢◌, ◌<◌, ◌≤◌, Bool, true, false, refl, sym, ap, ◌∙◌, arith, ℕ, suc}
use Rattle.std.specs.Prelude.{max, if◌then◌else◌}
use Rattle.std.proofs.Math.Path.{fun_ext}
use Rattle.goal_terms.specs.Tree.{Tree, Trees, node, alias, variable, none, more}
use Rattle.goal_terms.specs.SameLaws.{same_node-true, same_node-refl}
use Rattle.goal_terms.specs.declared.heads.Node.TheVariants as nodes
use Rattle.goal_terms.specs.declared.heads.Variable.{Variable}
use Rattle.goal_infer.specs.Replacement.{replaced, replaced_row, same_variable}
use Rattle.goal_infer.specs.Occurrence.{place_of, place_in_row, joined, within_alias, place_at}
use Rattle.goal_infer.specs.declared.occurs.Occurrence.{Occurrence}
use Rattle.goal_infer.specs.declared.occurs.Occurrence.TheVariants.{Nowhere, InAliasesAlone, Outside}

-- a tree is put for one variable
unfoldable pub single : Variable → Tree → Variable → Tree
single v t w = if same_variable w v then t else variable w

-- how many nodes stand above the deepest
unfoldable mutual
  pub height : Tree → ℕ
  height (node h ts) = suc (row_height ts)
  height (alias k ts) = suc (row_height ts)
  height (variable v) = 0

  pub row_height : Trees → ℕ
  row_height none = 0
  row_height (more t ts) = max (height t) (row_height ts)

-- each variable for itself
mutual
  unfolding replaced

  pub replaced-itself : (t : Tree) → replaced variable t ≡ t
  replaced-itself (node h ts) = ap (node h) (replaced_row-itself ts)
  replaced-itself (alias k ts) = ap (alias k) (replaced_row-itself ts)
  replaced-itself (variable v) = refl

  replaced_row-itself : (ts : Trees) → replaced_row variable ts ≡ ts
  replaced_row-itself none = refl
  replaced_row-itself (more t ts) = ap (λ z. more z (replaced_row variable ts)) (replaced-itself t) ∙ ap (more t) (replaced_row-itself ts)

-- one after the other
mutual
  unfolding replaced

  pub replaced-twice : (σ ρ : Variable → Tree) (t : Tree) → replaced σ (replaced ρ t) ≡ replaced (λ v. replaced σ (ρ v)) t
  replaced-twice σ ρ (node h ts) = ap (node h) (replaced_row-twice σ ρ ts)
  replaced-twice σ ρ (alias k ts) = ap (alias k) (replaced_row-twice σ ρ ts)
  replaced-twice σ ρ (variable v) = refl

  replaced_row-twice : (σ ρ : Variable → Tree) (ts : Trees) → replaced_row σ (replaced_row ρ ts) ≡ replaced_row (λ v. replaced σ (ρ v)) ts
  replaced_row-twice σ ρ none = refl
  replaced_row-twice σ ρ (more t ts) =
      ap (λ z. more z (replaced_row σ (replaced_row ρ ts))) (replaced-twice σ ρ t)
      ∙ ap (more (replaced (λ v. replaced σ (ρ v)) t)) (replaced_row-twice σ ρ ts)

-- what is put for a variable that is the same in two ways
pub replaced-pointwise : (σ ρ : Variable → Tree) → ((v : Variable) → σ v ≡ ρ v) → (t : Tree) → replaced σ t ≡ replaced ρ t
replaced-pointwise σ ρ e t = ap (λ f. replaced f t) (fun_ext e)

-- variables that are the same
pub same_variable-true : (v w : Variable) → same_variable v w ≡ true → v ≡ w
same_variable-true v w e = let p : nodes.Variable v ≡ nodes.Variable w = same_node-true (nodes.Variable v) (nodes.Variable w) e in cc

pub same_variable-self : (v w : Variable) → v ≡ w → same_variable v w ≡ true
same_variable-self v w e = ap (λ z. same_variable z w) e ∙ same_node-refl (nodes.Variable w)

pub single-here : (v w : Variable) (t : Tree) → w ≡ v → single v t w ≡ t
unfolding single
single-here v w t e = ap (λ b. if b then t else variable w) (same_variable-self w v e)

pub single-elsewhere : (v w : Variable) (t : Tree) → same_variable w v ≡ false → single v t w ≡ variable w
unfolding single
single-elsewhere v w t e = ap (λ b. if b then t else variable w) e

pub by_same : (v w : Variable) (P : Type 0) → (w ≡ v → P) → (same_variable w v ≡ false → P) → P
by_same v w P f g = on (same_variable w v) refl where
  on : (b : Bool) → same_variable w v ≡ b → P
  on true e = f (same_variable-true w v e)
  on false e = g e

pub single-other : (v w : Variable) (t : Tree) → w ≢ v → single v t w ≡ variable w
single-other v w t differ = by_same v w (single v t w ≡ variable w) (λ e. absurd (differ e)) (single-elsewhere v w t)

-- a replacement that already has the tree for the variable
pub replaced-single : (ρ : Variable → Tree) (v : Variable) (t : Tree) → ρ v ≡ replaced ρ t → (w : Variable) → replaced ρ (single v t w) ≡ ρ w
unfolding replaced
replaced-single ρ v t e w =
    by_same v w (replaced ρ (single v t w) ≡ ρ w) (λ p. ap (replaced ρ) (single-here v w t p) ∙ sym e ∙ ap ρ (sym p))
    (λ p. ap (replaced ρ) (single-elsewhere v w t p))

-- places that are joined
pub joined-nowhere : (a b : Occurrence) → joined a b ≡ Nowhere → (a ≡ Nowhere) × (b ≡ Nowhere)
joined-nowhere Nowhere b e = (refl, e)
joined-nowhere InAliasesAlone Nowhere e = absurd (cc)
joined-nowhere InAliasesAlone InAliasesAlone e = absurd (cc)
joined-nowhere InAliasesAlone Outside e = absurd (cc)
joined-nowhere Outside b e = absurd (cc)

pub within_alias-nowhere : (a : Occurrence) → within_alias a ≡ Nowhere → a ≡ Nowhere
within_alias-nowhere Nowhere e = refl
within_alias-nowhere InAliasesAlone e = absurd (cc)
within_alias-nowhere Outside e = absurd (cc)

pub place_at-nowhere : (b : Bool) → place_at b ≡ Nowhere → b ≡ false
place_at-nowhere true e = absurd (cc)
place_at-nowhere false e = refl

-- where a variable doesn't stand, nothing is put
mutual
  unfolding replaced place_of

  pub replaced-nowhere : (v : Variable) (u t : Tree) → place_of v t ≡ Nowhere → replaced (single v u) t ≡ t
  replaced-nowhere v u (node h ts) e = ap (node h) (replaced_row-nowhere v u ts e)
  replaced-nowhere v u (alias k ts) e = ap (alias k) (replaced_row-nowhere v u ts (within_alias-nowhere (place_in_row v ts) e))
  replaced-nowhere v u (variable w) e = single-elsewhere v w u (place_at-nowhere (same_variable w v) e)

  replaced_row-nowhere : (v : Variable) (u : Tree) (ts : Trees) → place_in_row v ts ≡ Nowhere → replaced_row (single v u) ts ≡ ts
  replaced_row-nowhere v u none e = refl
  replaced_row-nowhere v u (more t ts) e =
      let both : (place_of v t ≡ Nowhere) × (place_in_row v ts ≡ Nowhere) = joined-nowhere (place_of v t) (place_in_row v ts) e in
      ap (λ z. more z (replaced_row (single v u) ts)) (replaced-nowhere v u t both.0) ∙ ap (more t) (replaced_row-nowhere v u ts both.1)

-- what stands in a term is no higher
joined-somewhere : (a b : Occurrence) (P : Type 0) → joined a b ≢ Nowhere → (a ≢ Nowhere → P) → (b ≢ Nowhere → P) → P
joined-somewhere Nowhere b P h f g = g h
joined-somewhere InAliasesAlone b P h f g = f (λ e. absurd (cc))
joined-somewhere Outside b P h f g = f (λ e. absurd (cc))

mutual
  unfolding replaced place_of height

  pub height-within : (v : Variable) (ρ : Variable → Tree) (t : Tree) → place_of v t ≢ Nowhere → height (ρ v) ≤ height (replaced ρ t)
  height-within v ρ (node h ts) e = let l : height (ρ v) ≤ row_height (replaced_row ρ ts) = row_height-within v ρ ts e in omega arith
  height-within v ρ (alias k ts) e =
      let l : height (ρ v) ≤ row_height (replaced_row ρ ts) = row_height-within v ρ ts (λ p. e (ap within_alias p)) in omega arith
  height-within v ρ (variable w) e =
      by_same v w (height (ρ v) ≤ height (ρ w)) (λ p. let q : height (ρ w) ≡ height (ρ v) = ap (λ z. height (ρ z)) p in omega arith) (λ p. absurd (e (ap place_at p)))

  row_height-within : (v : Variable) (ρ : Variable → Tree) (ts : Trees) → place_in_row v ts ≢ Nowhere → height (ρ v) ≤ row_height (replaced_row ρ ts)
  row_height-within v ρ none e = absurd (e refl)
  row_height-within v ρ (more t ts) e =
      joined-somewhere (place_of v t) (place_in_row v ts) (height (ρ v) ≤ max (height (replaced ρ t)) (row_height (replaced_row ρ ts))) e
      (λ p. let l : height (ρ v) ≤ height (replaced ρ t) = height-within v ρ t p in omega arith)
      (λ p. let l : height (ρ v) ≤ row_height (replaced_row ρ ts) = row_height-within v ρ ts p in omega arith)

-- a whole number of steps above what stands below it
abbrev pub has_parts : Tree → Type 0
has_parts (node h ts) = Unit {0}
has_parts (alias k ts) = Unit {0}
has_parts (variable v) = ⊥

pub height-below : (v : Variable) (ρ : Variable → Tree) (t : Tree) → has_parts t → place_of v t ≢ Nowhere → height (ρ v) < height (replaced ρ t)
unfolding replaced place_of height
height-below v ρ (node h ts) p e = let l : height (ρ v) ≤ row_height (replaced_row ρ ts) = row_height-within v ρ ts e in omega arith
height-below v ρ (alias k ts) p e =
    let l : height (ρ v) ≤ row_height (replaced_row ρ ts) = row_height-within v ρ ts (λ q. e (ap within_alias q)) in omega arith
height-below v ρ (variable w) p e = absurd p

-- so no replacement makes a variable the same as a term that it stands in
pub never-within : (v : Variable) (ρ : Variable → Tree) (t : Tree) → has_parts t → place_of v t ≢ Nowhere → ρ v ≢ replaced ρ t
never-within v ρ t p e same = let l : height (ρ v) < height (replaced ρ t) = height-below v ρ t p e in let q : height (ρ v) ≡ height (replaced ρ t) = ap height same in omega arith
