-- The impls that the index names for given arguments: all that may fit are among them.
use Rattle.std.proofs.Common.{◌≡◌, ◌<◌, ℕ, length, ◌==◌, ◌&&◌, Bool, true, false, cond, List, [], ◌∷◌, map, filter, Some, refl, sym, ap, ◌∙◌, subst}
use Rattle.std.specs.Prelude.{slice_get}
use Rattle.std.specs.List.{All}
use Rattle.std.proofs.lemmas.Bool.{false≢true}
use Rattle.std.proofs.lemmas.List.Elements.{All-cons, All-nil}
use Rattle.std.proofs.lemmas.Option.{slice_get_within}
use Rattle.goal_terms.specs.Erased.{compared_node}
use Rattle.goal_terms.specs.SameLaws.{same_node-true, same_node-refl}
use Rattle.goal_terms.specs.SameTree.{same_node}
use Rattle.goal_terms.specs.Tree.{Tree, Trees, node, alias, variable, node_of}
use Rattle.goal_terms.specs.TreeOf.{trees_of}
use Rattle.goal_terms.specs.declared.compare.Regions.TheVariants.{Forgotten}
use Rattle.goal_terms.specs.declared.heads.Head.{Head}
use Rattle.goal_terms.specs.declared.heads.Head.TheVariants as head
use Rattle.goal_terms.specs.declared.heads.Node.{Node}
use Rattle.goal_terms.specs.declared.heads.Node.TheVariants as nodes
use Rattle.goal_terms.specs.declared.ids.TraitId.{TraitId}
use Rattle.goal_tables.specs.ImplsByHead.{known_head, first_head, self_head, may_be, impls_with_head}
use Rattle.goal_tables.specs.declared.rows.ImplRow.{ImplRow}
use Rattle.goal_tables.specs.declared.rows.Tables.{Tables}
use Rattle.goal_lists.specs.Candidates.{by_impl, impls_for}
use Rattle.goal_lists.specs.FastReject.{is_open, agree, lists_agree, heads_agree}
use Rattle.goal_lists.specs.Fitting.{head_agrees, first_constructor, may_fit, fitting}
use Rattle.goal_lists.specs.declared.fast_reject.Parameters.TheVariants.{Inferred}

-- of two tests that both pass each does
first_passes : (b c : Bool) → b && c ≡ true → b ≡ true
first_passes true c e = refl
first_passes false c e = absurd (false≢true e)

-- the same the other way round
same_node-back : (m n : Node) → same_node m n ≡ true → same_node n m ≡ true
same_node-back m n e = subst (λ k. same_node k m ≡ true) (same_node-true m n e) (same_node-refl m)

-- a header's term that agrees with a constructor has that one, or stands for others
head-near : (j : Head) (gs : Trees) (h : Tree) → head_agrees Inferred (node j gs) h ≡ true → may_be (compared_node Forgotten (nodes.Head j)) (known_head (node_of h)) ≡ true
unfolding agree is_open
head-near j gs (node (head.TyParam n) hs) e = refl
head-near j gs (node (head.ConstParam n) hs) e = refl
head-near j gs (node k hs) e = same_node-back (compared_node Forgotten (nodes.Head j)) (compared_node Forgotten (nodes.Head k)) (first_passes _ _ e)
head-near j gs (alias k hs) e = refl
head-near j gs (variable v) e = refl

first-near : (j : Head) (gs : Trees) (ts us : List Tree) → heads_agree Inferred (node j gs ∷ ts) us ≡ true → may_be (compared_node Forgotten (nodes.Head j)) (first_head us) ≡ true
unfolding lists_agree
first-near j gs ts [] e = refl
first-near j gs ts (u ∷ us) e = head-near j gs u (first_passes (head_agrees Inferred (node j gs) u) (heads_agree Inferred ts us) e)

-- tests that say the same of what may fit
left_out : (args : List Tree) (b : Bool) (r : ImplRow) (rs : List ImplRow) → may_fit args (by_impl r) ≡ false → fitting args (map by_impl (cond b (r ∷ rs) rs)) ≡ fitting args (map by_impl rs)
left_out args true r rs e = ap (λ b. cond b (by_impl r ∷ fitting args (map by_impl rs)) (fitting args (map by_impl rs))) e
left_out args false r rs e = refl

as_before : (args : List Tree) (b c : Bool) (r : ImplRow) (ls rs : List ImplRow) → b ≡ c → fitting args (map by_impl ls) ≡ fitting args (map by_impl rs) →
    fitting args (map by_impl (cond b (r ∷ ls) ls)) ≡ fitting args (map by_impl (cond c (r ∷ rs) rs))
as_before args true true r ls rs e h = ap (λ xs. cond (may_fit args (by_impl r)) (by_impl r ∷ xs) xs) h
as_before args false false r ls rs e h = h
as_before args true false r ls rs e h = absurd (false≢true (sym e))
as_before args false true r ls rs e h = absurd (false≢true e)

one_alike : (args : List Tree) (f b c : Bool) (r : ImplRow) (ls rs : List ImplRow) → may_fit args (by_impl r) ≡ f → (f ≡ true → b ≡ c) → fitting args (map by_impl ls) ≡ fitting args (map by_impl rs) →
    fitting args (map by_impl (cond b (r ∷ ls) ls)) ≡ fitting args (map by_impl (cond c (r ∷ rs) rs))
one_alike args true b c r ls rs e h k = as_before args b c r ls rs (h refl) k
one_alike args false b c r ls rs e h k = left_out args b r ls e ∙ k ∙ sym (left_out args c r rs e)

all_alike : (args : List Tree) (s t : ImplRow → Bool) → ((r : ImplRow) → may_fit args (by_impl r) ≡ true → s r ≡ t r) → (rs : List ImplRow) →
    fitting args (map by_impl (filter s rs)) ≡ fitting args (map by_impl (filter t rs))
all_alike args s t h [] = refl
all_alike args s t h (r ∷ rs) = one_alike args (may_fit args (by_impl r)) (s r) (t r) r (filter s rs) (filter t rs) refl (h r) (all_alike args s t h rs)

and_passed : (b c : Bool) → c ≡ true → b && c ≡ b
and_passed true c e = e
and_passed false c e = refl

-- where the first argument's head is known, the impls of that head are all that may fit
near-known : (t : Tables) (i : TraitId) (j : Head) (gs : Trees) (ts : List Tree) →
    fitting (node j gs ∷ ts) (map by_impl (impls_with_head t i (nodes.Head j))) ≡ fitting (node j gs ∷ ts) (map by_impl (impls_for t i))
near-known t i j gs ts =
    all_alike (node j gs ∷ ts) (λ r. (r.trait_id.0 == i.0) && may_be (compared_node Forgotten (nodes.Head j)) (self_head r)) (λ r. r.trait_id.0 == i.0)
    (λ r e. and_passed (r.trait_id.0 == i.0) (may_be (compared_node Forgotten (nodes.Head j)) (self_head r)) (first-near j gs ts (trees_of r.trait_args.items) e)) t.impls.items

pub near-fitting : (t : Tables) (i : TraitId) (args : List Tree) (n : Node) → first_constructor args ≡ Some n →
    fitting args (map by_impl (impls_with_head t i n)) ≡ fitting args (map by_impl (impls_for t i))
near-fitting t i [] n e = absurd (cc)
near-fitting t i (node h gs ∷ ts) n e =
    let same : nodes.Head h ≡ n = cc in
    subst (λ m. fitting (node h gs ∷ ts) (map by_impl (impls_with_head t i m)) ≡ fitting (node h gs ∷ ts) (map by_impl (impls_for t i))) same (near-known t i h gs ts)
near-fitting t i (alias k gs ∷ ts) n e = absurd (cc)
near-fitting t i (variable v ∷ ts) n e = absurd (cc)

-- and an impl of another head may not fit
not_both : (b c : Bool) → (b ≡ true → c ≡ true) → c ≡ false → b ≡ false
not_both true c h e = absurd (false≢true (sym e ∙ h refl))
not_both false c h e = refl

pub other_head-unfit : (args : List Tree) (n : Node) (r : ImplRow) → first_constructor args ≡ Some n → may_be (compared_node Forgotten n) (self_head r) ≡ false →
    may_fit args (by_impl r) ≡ false
other_head-unfit [] n r e other = absurd (cc)
other_head-unfit (node h gs ∷ ts) n r e other =
    let same : nodes.Head h ≡ n = cc in
    not_both (may_fit (node h gs ∷ ts) (by_impl r)) (may_be (compared_node Forgotten (nodes.Head h)) (self_head r)) (first-near h gs ts (trees_of r.trait_args.items))
    (ap (λ m. may_be (compared_node Forgotten m) (self_head r)) same ∙ other)
other_head-unfit (alias k gs ∷ ts) n r e other = absurd (cc)
other_head-unfit (variable v ∷ ts) n r e other = absurd (cc)

-- places of rows are within these
pub all-within : {X : Type 0} (rows : List X) (places : List ℕ) (found : List X) → map (slice_get rows) places ≡ map Some found → All (λ p. p < length rows) places
all-within rows [] found e = All-nil (λ p. p < length rows)
all-within rows (p ∷ ps) [] e = absurd (cc)
all-within rows (p ∷ ps) (r ∷ rs) e = All-cons (λ q. q < length rows) p ps (slice_get_within rows p r (cc)) (all-within rows ps rs (cc))
