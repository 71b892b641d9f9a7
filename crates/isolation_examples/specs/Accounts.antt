-- The premises on accounts are needed, in each of their parts: document 02, T-05.
use Rattle.std.specs.Prelude.{ℕ, refl, true, false, List, [], ◌∷◌, replicate}
use Rattle.cases.specs.Runs.{Exchange, by}
use Rattle.calls.specs.declared.Call.TheVariants.{OnObject}
use Rattle.calls.specs.declared.ObjectCall.TheVariants.{Create}
use Rattle.isolation_examples.specs.Compared.{Parts, comparing}
use Rattle.isolation_examples.specs.Shown.{Told, done, refuses}
use Rattle.isolation_examples.specs.Needed.{accounts, apart, Broken, broken, in_estates}

-- a boot that gives account 1 a limit, the member, domain 1, a home account and a set, and each outsider account 0 and a set
abbrev pub planned : ℕ → ℕ → ℕ → ℕ → List Exchange → Told
planned limit home set others es =
    record {
      store = replicate 8192 0;
      booter = 0;
      plan =
          11 ∷ 12 ∷ 13 ∷ 14
          ∷ 128 ∷ limit ∷ 128 ∷ 128
          ∷ 0 ∷ others ∷ home ∷ set ∷ 0 ∷ others ∷ 0 ∷ others
          ∷ [];
      exchanges = es;
    }

-- what differs: the estates alone
abbrev pub in_account : Parts
in_account = record { answers = true; words = true; estates = false; domains = true }

-- A LIMIT of the member's account differs.
abbrev pub limited : Told
limited = planned 1 1 2 1 (by 1 (OnObject (Create 33 1 31 1)) (refuses 15) ∷ [])

abbrev pub limited' : Told
limited' = planned 2 1 2 1 (by 1 (OnObject (Create 33 1 31 1)) done ∷ [])

pub limited_needed : Broken accounts limited limited' in_estates
unfolding comparing
limited_needed =
    broken accounts limited limited' in_estates (record { answered = refl; answered' = refl; tested = refl; compared = refl }) refl refl

-- THE SET of the member differs.
abbrev pub permitted : Told
permitted = planned 128 1 2 1 (by 1 (OnObject (Create 33 1 31 2)) (refuses 14) ∷ [])

abbrev pub permitted' : Told
permitted' = planned 128 1 6 1 (by 1 (OnObject (Create 33 1 31 2)) done ∷ [])

pub permitted_needed : Broken accounts permitted permitted' in_estates
unfolding comparing
permitted_needed =
    broken accounts permitted permitted' in_estates (record { answered = refl; answered' = refl; tested = refl; compared = refl }) refl refl

-- THE HOME ACCOUNT of the member differs: with no call at all its home object ends on another account.
abbrev pub settled : Told
settled = planned 128 1 6 1 []

abbrev pub settled' : Told
settled' = planned 128 2 6 1 []

pub settled_needed : Broken accounts settled settled' in_account
unfolding comparing
settled_needed =
    broken accounts settled settled' in_account (record { answered = refl; answered' = refl; tested = refl; compared = refl }) refl refl

-- AN ACCOUNT IS SHARED: an outsider charges the member's account up to its limit, or not.
abbrev pub shared : Told
shared = planned 2 1 2 3 (by 0 (OnObject (Create 1 1 21 1)) done ∷ by 1 (OnObject (Create 33 1 31 1)) (refuses 15) ∷ [])

abbrev pub shared' : Told
shared' = planned 2 1 2 3 (by 1 (OnObject (Create 33 1 31 1)) done ∷ [])

pub shared_needed : Broken apart shared shared' in_estates
unfolding comparing
shared_needed =
    broken apart shared shared' in_estates (record { answered = refl; answered' = refl; tested = refl; compared = refl }) refl refl
