-- The states of the generator by their number, and as its steps make them.
use Rattle.std.proofs.Common.{◌≡◌, ◌<◌, ℕ, zero, suc, ◌+◌, ◌*◌, ◌%◌, ◌^◌, refl, sym, ap, ◌∙◌, arith, lit<, add-one}
use Rattle.std.proofs.Math.Nat.{mod-add-mod}
use Rattle.std.proofs.lemmas.Nat.{mul-mod_first}
use Rattle.std.proofs.lemmas.Grind.{or_after_shift}
use Rattle.rand_pcg.specs.Lcg.{Lcg, next_state, state_after, next, advance, started, increment_of}
use Rattle.rand_pcg.specs.Pcg.{multiplier_64, pcg32}
use Rattle.toxic_defs.specs.RandomWords.{state, output, stream_of, increment_of_key, word_of, StandsAt}
use Rattle.toxic_defs.specs.declared.words.Key.{Key}

-- one step more at the end
one_more : (w m i n x : ℕ) → state_after w m i (suc n) x ≡ next_state w m i (state_after w m i n x)
unfolding state_after
one_more w m i zero x = refl
one_more w m i (suc n) x = one_more w m i n (next_state w m i x)

-- a step may take the remainder once or twice
step_is : (x i : ℕ) → next_state 64 multiplier_64 i x ≡ (x * multiplier_64 + i) % 2 ^ 64
step_is x i = mod-add-mod (x * multiplier_64) (2 ^ 64) i

first_is : (seed i : ℕ) → (started 64 multiplier_64 seed i).state ≡ state seed i 0
unfolding state
first_is seed i =
    step_is ((seed + i) % 2 ^ 64) i
    ∙ sym (mod-add-mod ((seed + i) % 2 ^ 64 * multiplier_64) (2 ^ 64) i)
    ∙ ap (λ x. (x + i) % 2 ^ 64) (mul-mod_first (seed + i) multiplier_64 (2 ^ 64))
    ∙ mod-add-mod ((seed + i) * multiplier_64) (2 ^ 64) i

next_is : (seed i k : ℕ) → next_state 64 multiplier_64 i (state seed i k) ≡ state seed i (suc k)
unfolding state
next_is seed i k = step_is (state seed i k) i

state_is : (seed i k : ℕ) → state_after 64 multiplier_64 i k (started 64 multiplier_64 seed i).state ≡ state seed i k
unfolding state_after
state_is seed i zero = first_is seed i
state_is seed i (suc k) = one_more 64 multiplier_64 i k (started 64 multiplier_64 seed i).state ∙ ap (next_state 64 multiplier_64 i) (state_is seed i k) ∙ next_is seed i k

odd_is : (stream : ℕ) → stream < 2 ^ 63 → increment_of 64 stream ≡ 2 * stream + 1
odd_is stream h = or_after_shift stream 2 (2 ^ 64) 1 refl (lit< tt) (omega arith) ∙ omega arith

pub jumped : (key : Key) (stream k : ℕ) (g h : Lcg) → stream ≡ stream_of key → stream < 2 ^ 63 → g ≡ started 64 multiplier_64 key.seed (increment_of 64 stream) → h ≡ advance 64 multiplier_64 k g → StandsAt h key k
jumped key stream k g h is small new moved =
    let odd : increment_of 64 stream ≡ increment_of_key key = odd_is stream small ∙ ap (λ n. 2 * n + 1) is in
    let e : h ≡ advance 64 multiplier_64 k (started 64 multiplier_64 key.seed (increment_of_key key)) = moved ∙ ap (advance 64 multiplier_64 k) (new ∙ ap (started 64 multiplier_64 key.seed) odd) in
    record { state = ap (λ (x : Lcg). x.state) e ∙ state_is key.seed (increment_of_key key) k; increment = ap (λ (x : Lcg). x.increment) e }

pub stepped : (key : Key) (k w : ℕ) (g h : Lcg) → StandsAt g key k → (w, h) ≡ pcg32 g → (w ≡ word_of key k) × StandsAt h key (k + 1)
unfolding word_of
stepped key k w g h at step =
    let i : ℕ = increment_of_key key in
    let e : h ≡ next 64 multiplier_64 g = ap (λ (p : ℕ × Lcg). p.1) step in (
      ap (λ (p : ℕ × Lcg). p.0) step ∙ ap output at.state,
      record {
        state = ap (λ (x : Lcg). x.state) e ∙ ap (λ n. next_state 64 multiplier_64 n g.state) at.increment ∙ ap (next_state 64 multiplier_64 i) at.state ∙ next_is key.seed i k ∙ ap (state key.seed i) (sym (add-one k));
        increment = ap (λ (x : Lcg). x.increment) e ∙ at.increment;
      },
    )
