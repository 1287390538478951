-- An index of chains: it answers what a search of all keys answers, "the first id whose text is equal", and looks only at
-- keys with the same hash. Assumes nothing.
use Rattle.std.specs.Prelude.{ℕ, zero, suc, ◌+◌, ◌-◌, ◌≤◌, ◌<◌, ◌≡◌, List, eqb, length, take, drop, get_or}
use Rattle.lists.specs.Choice.{pick}

-- the first of m indexes from k on that has a hash, or the index behind them
unfoldable pub first_from : (ℕ → ℕ) → ℕ → ℕ → ℕ → ℕ
first_from hash h k zero = k
first_from hash h k (suc m) = pick (eqb (hash k) h) k (first_from hash h (suc k) m)

-- the first i with k ≤ i < n that has a hash, or n
unfoldable pub first_with : (ℕ → ℕ) → ℕ → ℕ → ℕ → ℕ
first_with hash h n k = first_from hash h k (n - k)

-- the indexes from k to n are in chains: a bucket's head is the first index with its hash, and behind each index stands
-- the next one with the same hash; n ends a chain. An index whose hash is no bucket is in none
pub record Chained (hash : ℕ → ℕ) (buckets n k : ℕ) (heads nexts : List ℕ) : Type 0 where
  pub bucket_count : length heads ≡ buckets
  pub room : n ≤ length nexts
  pub head_of : (h : ℕ) → h < buckets → get_or heads h 0 ≡ first_with hash h n k
  pub next_of : (i : ℕ) → k ≤ i → i < n → hash i < buckets → get_or nexts i 0 ≡ first_with hash (hash i) n (i + 1)

-- the same in one list: the buckets' heads, and behind them the nexts
abbrev pub ChainedIn : (ℕ → ℕ) → ℕ → ℕ → ℕ → List ℕ → Type 0
ChainedIn hash buckets n k index = Chained hash buckets n k (take buckets index) (drop buckets index)

-- a search that looks at every index answers from k on what `answer k` says; one that walks the chain of a hash has come
-- to index i, which has that hash where it is below n, and answers the same from there on
pub record Walk {A : Type 0} (hash : ℕ → ℕ) (n h : ℕ) (answer : ℕ → A) (i : ℕ) : Type 0 where
  pub reached : i ≤ n
  pub in_chain : i < n → hash i ≡ h
  pub same_answer : answer 0 ≡ answer i
