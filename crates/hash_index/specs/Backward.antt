-- An index of chains that go from the last key to the first: it answers what a search of all keys from the last on answers, and
-- looks only at keys with the same hash. Assumes nothing.
use Rattle.std.specs.Prelude.{ℕ, zero, suc, ◌+◌, ◌-◌, ◌/◌, ◌≤◌, ◌<◌, ◌≡◌, List, eqb, length, get_or}
use Rattle.lists.specs.Choice.{pick}

-- a key's word holds 1 more than the next key, or 0 where there is none, as a multiple of this, and a number of the key's own below it
abbrev pub next_unit : ℕ
next_unit = 140737488355328

-- every key is below this, so that 1 more than a key fits the word
abbrev pub key_limit : ℕ
key_limit = 131071

-- 1 more than the last key below n that has a hash, or 0
unfoldable pub last_below : (ℕ → ℕ) → ℕ → ℕ → ℕ
last_below hash h zero = 0
last_below hash h (suc k) = pick (eqb (hash k) h) (suc k) (last_below hash h k)

-- the keys below n are in chains: a bucket's head is the last key with its hash, and behind the heads stands for each key the next
-- one before it with the same hash
pub record ChainedBack (hash : ℕ → ℕ) (buckets n : ℕ) (index : List ℕ) : Type 0 where
  pub room : buckets + n ≤ length index
  pub head_of : (h : ℕ) → h < buckets → get_or index h 0 ≡ last_below hash h n
  pub next_of : (k : ℕ) → k < n → get_or index (buckets + k) 0 / next_unit ≡ last_below hash (hash k) k

-- a search of the keys below k answers `answer k`; one that walks the chain of a hash has come to the keys below k, of which the
-- last has that hash, and answers the same as one of all keys below n
pub record WalkBack {A : Type 0} (hash : ℕ → ℕ) (n h : ℕ) (answer : ℕ → A) (k : ℕ) : Type 0 where
  pub reached : k ≤ n
  pub in_chain : 0 < k → hash (k - 1) ≡ h
  pub same_answer : answer n ≡ answer k
