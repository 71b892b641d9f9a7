-- The accounts that members may charge, and the group's part of the accounts.
use Rattle.std.specs.Prelude.{ℕ, ◌<◌, ◌≡◌, Bool, false, ◌&&◌, List, ◌⊎◌}
use Rattle.std.proofs.Common.{sym, ◌∙◌, inl, inr}
use Rattle.std.proofs.Math.Path.{ap}
use Rattle.std.proofs.Math.Bool.{true, not, true≢false}
use Rattle.std.proofs.Math.Logic.{⊎_elim}
use Rattle.bounded.specs.Bools.{flag}
use Rattle.bounded.specs.Every.{below, below_at, below_all, below_same}
use Rattle.bounded.specs.Fill.{tabulate_at}
use Rattle.state.specs.Places.{limit_at, set_at}
use Rattle.state.specs.Pages.{may_charge}
use Rattle.state.specs.declared.Accounts.{Accounts}
use Rattle.calls.specs.Boot.{set_of, boot_accounts}
use Rattle.isolation.specs.Group.{Group, member}
use Rattle.isolation.specs.Members.{member_below}
use Rattle.isolation.specs.Premises.{AccountsApart}
use Rattle.isolation.specs.Mask.{mask, mask_keeps, mask_in, mask_mask}

-- The set that a boot gives a domain.
pub boot_set : (plan : List ℕ) (d : ℕ) → d < 4 → set_at (boot_accounts plan) d ≡ set_of plan d
unfolding boot_accounts
boot_set plan d l = tabulate_at 4 (set_of plan) d 0 l

module _ (G : Group) where
  -- AN ACCOUNT IS INSIDE where some member may charge it
  unfoldable pub inside_account : Accounts → ℕ → Bool
  inside_account x a = not (below 4 (λ d. not (member G d && may_charge x d a)))

  pub member_inside : (x : Accounts) (d a : ℕ) → member G d ≡ true → may_charge x d a ≡ true → inside_account x a ≡ true
  unfolding inside_account
  member_inside x d a m c =
      ⊎_elim (λ t. absurd (true≢false (sym (below_at 4 _ t d (member_below G d m)) ∙ rw (m, c)))) (λ f. rw f)
      (flag (below 4 (λ e. not (member G e && may_charge x e a))))

  pub inside_member : (x : Accounts) (a : ℕ) → inside_account x a ≡ true → ((d : ℕ) → member G d ≡ true → may_charge x d a ≡ true → ⊥) → ⊥
  unfolding inside_account
  inside_member x a i h = true≢false (sym i ∙ ap not (below_all 4 _ (λ d l. each d (flag (member G d)) (flag (may_charge x d a)))))
    where
      each : (d : ℕ) → (member G d ≡ true) ⊎ (member G d ≡ false) → (may_charge x d a ≡ true) ⊎ (may_charge x d a ≡ false)
          → not (member G d && may_charge x d a) ≡ true
      each d (inr o) c = rw o
      each d (inl m) (inr n) = rw (m, n)
      each d (inl m) (inl c) = absurd (h d m c)

  -- One that an outsider may charge is not, where the accounts are apart.
  pub outsider_outside : (x : Accounts) → AccountsApart G (set_at x) → (e a : ℕ) → member G e ≡ false → e < 4 → may_charge x e a ≡ true
      → inside_account x a ≡ false
  outsider_outside x apart e a o l c =
      ⊎_elim (λ i. absurd (inside_member x a i (λ d m n. true≢false (sym c ∙ apart d e a m o l n)))) (λ f. f) (flag (inside_account x a))

  -- THE PART: the members' sets, and the limits of the accounts inside
  unfoldable pub accounts_part : Accounts → Accounts
  accounts_part x = record { limits = mask (inside_account x) 0 x.limits; sets = mask (member G) 0 x.sets }

  -- What a member may charge is in the part,
  pub charge_in : (x : Accounts) (d a : ℕ) → member G d ≡ true → may_charge (accounts_part x) d a ≡ may_charge x d a
  unfolding accounts_part
  charge_in x d a m = rw (mask_in (member G) 0 x.sets d m)

  -- with its limit.
  pub limit_in : (x : Accounts) (a : ℕ) → inside_account x a ≡ true → limit_at (accounts_part x) a ≡ limit_at x a
  unfolding accounts_part
  limit_in x a i = mask_in (inside_account x) 0 x.limits a i

  -- Where members may charge the same accounts, the same are inside.
  pub inside_same : (x y : Accounts) → ((d a : ℕ) → member G d ≡ true → may_charge x d a ≡ may_charge y d a) → (a : ℕ)
      → inside_account x a ≡ inside_account y a
  unfolding inside_account
  inside_same x y h a = ap not (below_same 4 _ _ (λ d l. each d (flag (member G d))))
    where
      each : (d : ℕ) → (member G d ≡ true) ⊎ (member G d ≡ false) → not (member G d && may_charge x d a) ≡ not (member G d && may_charge y d a)
      each d (inl m) = rw (h d a m)
      each d (inr o) = rw o

  -- The part of the part is the part.
  pub accounts_part_lem : (x : Accounts) → accounts_part (accounts_part x) ≡ accounts_part x
  unfolding accounts_part
  accounts_part_lem x =
      let e : mask (inside_account (accounts_part x)) 0 (mask (inside_account x) 0 x.limits) ≡ mask (inside_account x) 0 x.limits =
      mask_keeps _ _ 0 _ (inside_same (accounts_part x) x (charge_in x)) ∙ mask_mask (inside_account x) 0 x.limits in
      rw (e, mask_mask (member G) 0 x.sets)
