-- What an upload or a download promises to it.
-- Assumes nothing.
use Rattle.std.specs.Prelude.{◌≡◌, List, ℕ}
use Rattle.profile.specs.Calls.{Plain, direct}
use Rattle.profile.specs.Server.{encoded}
use Rattle.profile.specs.Replies.{reply}
use Rattle.store.specs.declared.Store.{Store}
use Rattle.store.specs.View.{machines_of}
use Rattle.store.specs.Promises.{Ensured}

-- the plain call c was done, and its reply stands in the buffer
pub record Done (before : Store) (c : Plain) (frame buffer : List ℕ) (left : Store) : Type 0 where
  pub ensured : Ensured before (direct c) (reply (machines_of before) (direct c)) left
  pub bytes : buffer ≡ encoded frame (reply (machines_of before) (direct c))
