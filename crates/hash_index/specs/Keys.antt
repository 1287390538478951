-- Keys that are texts, some of which may be gaps, and their index. Assumes nothing.
use Rattle.std.specs.Prelude.{ℕ, zero, suc, Bool, false, List, Option, Some, None}
use Rattle.lists.specs.Choice.{pick}
use Rattle.lists.specs.Scan.{same}
use Rattle.hash_index.specs.Hash.{bucket_of}
use Rattle.hash_index.specs.Chain.{ChainedIn}

-- the bucket of a key among m; a gap has none
abbrev pub bucket_in : ℕ → Option (List ℕ) → ℕ
bucket_in m (Some key) = bucket_of m key
bucket_in m None = m

-- the keys from k on, of n, are in chains of m buckets
abbrev pub KeysFrom : (ℕ → Option (List ℕ)) → ℕ → ℕ → ℕ → List ℕ → Type 0
KeysFrom key m n k index = ChainedIn (λ i. bucket_in m (key i)) m n k index

-- an index of n keys
abbrev pub KeysIndexed : (ℕ → Option (List ℕ)) → ℕ → ℕ → List ℕ → Type 0
KeysIndexed key m n index = KeysFrom key m n 0 index

-- a key is a text
abbrev pub is_key : List ℕ → Option (List ℕ) → Bool
is_key text (Some key) = same key text
is_key text None = false

-- the first of m keys from k on that is a text
unfoldable pub key_from : (ℕ → Option (List ℕ)) → List ℕ → ℕ → ℕ → Option ℕ
key_from key text k zero = None
key_from key text k (suc m) = pick (is_key text (key k)) (Some k) (key_from key text (suc k) m)

-- the first of n keys that is a text
abbrev pub first_key : (ℕ → Option (List ℕ)) → ℕ → List ℕ → Option ℕ
first_key key n text = key_from key text 0 n
