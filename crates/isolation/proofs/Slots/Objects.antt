-- Objects whose registered lists name pages inside: what they become, and what a member's CA finds.
use Rattle.std.specs.Prelude.{ℕ, ◌/◌, ◌≡◌, refl, true, eqb, Option, Some, None}
use Rattle.std.proofs.Common.{sym, ◌∙◌, true≢false, ⊎_elim, arith}
use Rattle.bounded.specs.Bools.{flag, cond_ind}
use Rattle.rights.specs.Modes.{pdx}
use Rattle.state.specs.Places.{no_object, free_object}
use Rattle.state.specs.Update.{drop_password}
use Rattle.soundness.specs.Sound.{sound}
use Rattle.state.specs.declared.Object.{Object}
use Rattle.state.specs.declared.Frame.{Frame}
use Rattle.judge.specs.Judged.{judged}
use Rattle.judge.specs.declared.Target.TheVariants.{Address}
use Rattle.calls.specs.View.{rights, World, search, found_by, is_some, object_of}
use Rattle.calls.specs.Laws.Searched.{called_registered}
use Rattle.isolation.specs.Group.{Group, inside_page}
use Rattle.isolation.specs.Premises.{ListsInside}
use Rattle.isolation.specs.Kept.{covering_each}
use Rattle.isolation.proofs.Seen.{judged_out}
use Rattle.isolation.proofs.Slots.Inside.{Page, ObjectIn, StateIn}

module _ (G : Group) where
  -- a free place has no registered list
  pub free_in : ObjectIn G free_object
  free_in p = absurd (omega arith)

  pub none_in : ObjectIn G no_object
  none_in p = absurd (omega arith)

  -- an object with a password less
  pub drop_in : (o : Object) (k : ℕ) → ObjectIn G o → ObjectIn G (drop_password o k)
  unfolding drop_password
  drop_in o k h =
      cond_ind (ObjectIn G) (eqb k 0) o _ (λ e. h)
      (λ e. cond_ind (ObjectIn G) (eqb o.registration.password k) _ _ (λ g p. absurd (omega arith)) (λ g. h))

  -- THE LIST OF A REGISTRATION that a member is granted P on: an object outside would be refused, so this one lies inside
  pub called_in : (w : World) (f : Frame) (a : ℕ) → sound w.state ≡ true → ListsInside G w f → StateIn G w.state
      → is_some (search judged w f (rights (Address a) pdx)) ≡ true → Page G (object_of (search judged w f (rights (Address a) pdx))).registration.list
  called_in w f a h lists i s = go (judged w.state.table w.words f (Address a) pdx) refl s
    where
      inside : is_some (search judged w f (rights (Address a) pdx)) ≡ true → inside_page G (a / 64) ≡ true
      inside s = ⊎_elim (λ t. t) (λ o. absurd (true≢false (sym s ∙ rw (judged_out G w h f (Address a) pdx lists o)))) (flag (inside_page G (a / 64)))

      go : (j : Option ℕ) → judged w.state.table w.words f (Address a) pdx ≡ j → is_some (found_by w (Address a) j) ≡ true
          → Page G (object_of (found_by w (Address a) j)).registration.list
      go (Some pair) e g =
          covering_each (ObjectIn G) free_in none_in w.state.table (a / 64) (i.estates (a / 64 / 32) (inside s)) (called_registered w f a pair h e)
      go None e g = absurd (true≢false (sym g))
