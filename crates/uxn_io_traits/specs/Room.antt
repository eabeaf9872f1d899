-- What a tree is guaranteed to do (profile).
use Rattle.std.specs.Prelude.{ℕ}

-- no call fails as long as fewer files than `files` are made more, and no file gets over `bytes` bytes. Where
-- `files` is 0 nothing is promised.
pub record Room : Type 0 where
  pub files : ℕ
  pub bytes : ℕ

-- nothing is promised
abbrev pub no_promise : Room
no_promise = record { files = 0; bytes = 0 }
