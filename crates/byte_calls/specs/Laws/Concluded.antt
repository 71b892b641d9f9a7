-- Where a C function returns: one law for each place, whatever call it is.
use Rattle.std.specs.Prelude.{ℕ, ◌<◌, ◌≤◌, ◌≡◌, refl, Bool, ◌&&◌, List, eqb, ◌⊎◌, Ok, Err}
use Rattle.std.proofs.Common.{sym, ◌∙◌, true≢false, inl, inr}
use Rattle.std.proofs.Math.Path.{ap}
use Rattle.std.proofs.Math.Bool.{true, false, cond}
use native.Mathlib.Omega.{arith}
use Rattle.std.proofs.Math.ListN.{length, get_or}
use borrow.Author.Tests.{eq-eqb, eqb-true}
use Rattle.codec.specs.Codec.{Bytes}
use Rattle.codec.specs.Number.{number}
use Rattle.codec.specs.Array.{gets_length}
use Rattle.layout.specs.Sizes.{state_size}
use Rattle.layout.specs.Layout.{state}
use Rattle.image.specs.Image.{reading, written, readable_length, readable_sound, writes_back}
use Rattle.calls.specs.Answers.{refusal_number, values_from}
use Rattle.calls.specs.Boot.{boot}
use Rattle.calls.specs.Step.{Result, world, result_of, step, unchecked}
use Rattle.calls.specs.Laws.Unchecked.{sound_unchecked}
use Rattle.calls.proofs.Sound.{words_kept}
use Rattle.calls.specs.declared.Call.{Call}
use Rattle.calls.specs.declared.Outcome.{Outcome}
use Rattle.calls.specs.declared.Refusal.{Refusal}
use Rattle.slices.specs.Slices.{words, values, filled, cleared, wrong_length}
use Rattle.slices.specs.Laws.Valued.{filled_whole}
use Rattle.byte_calls.specs.Called.{Slices, slices, Told, told, refused_by, told_by, is_done, checked_by, called, booted}
use Rattle.byte_calls.specs.Changed.{changed_by}
use Rattle.byte_calls.specs.Laws.Stored.{Outside}
use Rattle.byte_calls.specs.Laws.Changed.{run_within, state_left, words_left}
use Rattle.byte_calls.specs.declared.Changed.{Changed}

-- what holds once a call was made: the lengths, and what lies outside of what can have changed
pub record Ready (s : Slices) (ws : List ℕ) (ch : Changed) (o : Outcome) : Type 0 where
  pub image_long : length s.image ≡ state_size
  pub store_long : length s.store ≡ 65536
  pub values_long : length s.values ≡ 88
  pub words_long : length ws ≡ 8192
  pub within : ch.to ≤ 8192
  pub same_state : ch.state ≡ false → state.put o.state ≡ s.image
  pub outside : Outside ch.from ch.to s.store ws

-- done: the state's image where the state can have changed, the store, the values
pub by_done : (s : Slices) (ws : List ℕ) (ch : Changed) (o : Outcome) (value : ℕ) (after : Slices) → Ready s ws ch o → o.answer ≡ Ok value
    → after.image ≡ cond (ch.state && is_done o.answer) (written s.image o.state) s.image → after.store ≡ words.put ws
    → after.values ≡ filled s.values (values_from (Ok value) o.fields) → told 0 after ≡ told_by s o ws
unfolding written
by_done s ws ch o value after r a i t v = rw (a, t, v, filled_whole s.values _ r.values_long) (rw (i, a, eq-eqb _ state_size r.image_long) (go ch.state refl))
  where
    go : (b : Bool) → ch.state ≡ b
        → told 0 (slices (cond (b && true) (state.put o.state) s.image) (words.put ws) (values.put (values_from (Ok value) o.fields)))
        ≡ told 0 (slices (state.put o.state) (words.put ws) (values.put (values_from (Ok value) o.fields)))
    go true e = refl
    go false e = rw (r.same_state e)

-- refused: the image is not written
pub by_refused : (s : Slices) (ws : List ℕ) (b : Bool) (o : Outcome) (why : Refusal) (n : ℕ) (image vs : List ℕ) → o.answer ≡ Err why
    → image ≡ cond (b && is_done o.answer) (written s.image o.state) s.image → n ≡ refusal_number why → vs ≡ cleared s.values
    → told n (slices image s.store vs) ≡ told_by s o ws
by_refused s ws b o why n image vs a i e v = rw (a, e, v) (ap (λ x. told (refusal_number why) (slices x s.store (cleared s.values))) (rw a at i ∙ not_done b))
  where
    not_done : (b : Bool) → cond (b && false) (written s.image o.state) s.image ≡ s.image
    not_done true = refl
    not_done false = refl

-- lengths that are right
pub right_lengths : (a b : ℕ) → wrong_length a b ≡ 0 → (a ≡ 65536) × (b ≡ 88)
right_lengths a b h = go (eqb a 65536) (eqb b 88) refl refl h
  where
    go : (x y : Bool) → eqb a 65536 ≡ x → eqb b 88 ≡ y → ◌≡◌ {A = ℕ} (cond x (cond y 0 13) 2) 0 → (a ≡ 65536) × (b ≡ 88)
    go true true p q e = (eqb-true a 65536 p, eqb-true b 88 q)
    go true false p q e = absurd (omega arith)
    go false y p q e = absurd (omega arith)

module _ (serves : Bool) (s : Slices) (r : Result) where
  -- 2, or 13 for the values' length
  pub by_length : (n m : ℕ) (vs : List ℕ) → n ≡ wrong_length (length s.store) (length s.values) → (n ≡ 0 → ⊥) → m ≡ n → vs ≡ cleared s.values
      → told m (slices s.image s.store vs) ≡ checked_by serves s r
  unfolding checked_by
  by_length n m vs e z k v = rw (k, v) (go (eqb (length s.store) 65536) (eqb (length s.values) 88) e)
    where
      go : (x y : Bool) → n ≡ cond x (cond y 0 13) 2
          → told n (slices s.image s.store (cleared s.values))
          ≡ cond x (cond (y && serves) (told_by s r.outcome r.words) (refused_by 13 s)) (refused_by 2 s)
      go true true q = absurd (z q)
      go true false q = rw q
      go false y q = rw q

  -- 13, for the image
  pub by_image : length s.store ≡ 65536 → length s.values ≡ 88 → serves ≡ false → (n : ℕ) (vs : List ℕ) → n ≡ 13 → vs ≡ cleared s.values
      → told n (slices s.image s.store vs) ≡ checked_by serves s r
  unfolding checked_by
  by_image l m h n vs e v = rw (eq-eqb _ 65536 l, eq-eqb _ 88 m, h, e, v)

  -- what the call comes to
  pub by_result : {t : Told} → length s.store ≡ 65536 → length s.values ≡ 88 → serves ≡ true → t ≡ told_by s r.outcome r.words
      → t ≡ checked_by serves s r
  unfolding checked_by
  by_result l m h e = rw (eq-eqb _ 65536 l, eq-eqb _ 88 m, h) e

-- a call on an image that reads: `unchecked` makes what `step` says, and leaves what it can have changed ready to be written
module _ (image store vs : List ℕ) (d : ℕ) (c : Call) (o : Outcome) (ws : List ℕ) (bytes : Bytes image) (store_long : length store ≡ 65536)
    (values_long : length vs ≡ 88) (read : (reading image).readable ≡ true)
    (made : result_of o ws ≡ unchecked (world (reading image).state (words.get store)) d c) where
  is_step : step (world (reading image).state (words.get store)) d c ≡ result_of o ws
  is_step = sound_unchecked _ d c (readable_sound image read) ∙ sym made

  got_long : length (words.get store) ≡ 8192
  unfolding words
  got_long = gets_length (number 8) 8192 store

  pub call_ready : (ch : Changed) → ch ≡ changed_by c → Ready (slices image store vs) ws ch o
  unfolding words
  call_ready ch e =
      record {
        image_long = readable_length image read;
        store_long = store_long;
        values_long = values_long;
        words_long = ap (λ r. length r.words) (sym is_step) ∙ words_kept _ d c got_long;
        within = rw e (run_within c);
        same_state =
            λ f.
            ap (λ r. state.put r.outcome.state) (sym is_step) ∙ ap state.put (state_left _ d c (rw e at f)) ∙ writes_back image bytes read;
        outside = rw e (λ j l b. ap (λ r. get_or r.words j 0) (sym is_step) ∙ words_left _ d c j l b);
      }

  pub by_call : {t : Told} → t ≡ told_by (slices image store vs) o ws → t ≡ called (slices image store vs) d c
  unfolding called
  by_call {t} e =
      by_result (reading image).readable (slices image store vs) _ store_long values_long read
      (e ∙ ap (λ r. told_by (slices image store vs) r.outcome r.words) (sym is_step))

-- BT on an image of the length
module _ (image store vs : List ℕ) (d : ℕ) (plan : List ℕ) (o : Outcome) (ws : List ℕ) (image_long : length image ≡ state_size)
    (store_long : length store ≡ 65536) (values_long : length vs ≡ 88) (made : result_of o ws ≡ boot (words.get store) d plan) where
  pub boot_ready : (ch : Changed) → ch ≡ record { state = true; from = 0; to = 8192 } → length ws ≡ 8192 → Ready (slices image store vs) ws ch o
  unfolding words
  boot_ready ch e l =
      record {
        image_long = image_long;
        store_long = store_long;
        values_long = values_long;
        words_long = l;
        within = rw e (omega arith);
        same_state = λ f. absurd (true≢false (rw e at f));
        outside = rw e (λ j m b. absurd (nowhere j m b));
      }
    where
      nowhere : (j : ℕ) → j < 8192 → (j < 0) ⊎ (8192 ≤ j) → ⊥
      nowhere j m (inl x) = omega arith
      nowhere j m (inr x) = omega arith

  pub by_boot : {t : Told} → t ≡ told_by (slices image store vs) o ws → t ≡ booted (slices image store vs) d plan
  unfolding booted
  by_boot {t} e =
      by_result (eqb (length image) state_size) (slices image store vs) _ store_long values_long (eq-eqb _ state_size image_long)
      (e ∙ ap (λ r. told_by (slices image store vs) r.outcome r.words) made)
