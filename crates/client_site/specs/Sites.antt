-- What a client has at one server: how far it is set up, which files are open, and in which session the server calls back.
use Rattle.std.specs.Prelude.{ℕ, ◌==◌, Bool, true, false, if◌then◌else◌, List, [], ◌∷◌, ◌++◌, find, Option, Some, None}
use Rattle.nfs_base.specs.declared.seal.End.{End}
use Rattle.nfs_base.specs.declared.seal.End.TheVariants as ends
use Rattle.nfs_base.specs.declared.side.Side.{Side}
use Rattle.nfs_base.specs.declared.side.Side.TheVariants.{Source, Dest}
use Rattle.client_copies.specs.declared.copy.Session.{Session}
use Rattle.mount.specs.Sending.{session_in}
use Rattle.mount.specs.State.{fresh, root_context, setup_in}
use Rattle.mount.specs.declared.state.Context.{Context}
use Rattle.session_client.specs.declared.setup.Setup.{Setup}
use Rattle.session_client.specs.declared.setup.Setup.TheVariants as setups
use Rattle.client_site.specs.declared.site.OpenFile.{OpenFile}
use Rattle.client_site.specs.declared.site.Site.{Site}

abbrev pub end_of : Side → End
end_of Source = ends.Source
end_of Dest = ends.Dest

abbrev pub fresh_site : Side → Site
fresh_site side = record { mount = fresh (end_of side) true; files = []; back = None }

-- ---- how far it is set up

-- the client's ID and the session, where all is there
abbrev pub up_in : Setup → Option (ℕ × List ℕ)
up_in (setups.Up client session) = Some (client, session)
up_in _ = None

abbrev pub up_at : Site → Option (ℕ × List ℕ)
up_at s = up_in (setup_in s.mount.standing)

-- a session is known by its ID and its root context
abbrev pub session_under : List ℕ → Option Context → Option Session
session_under id None = None
session_under id (Some c) = Some (record { id = id; root = c.root })

abbrev pub session_of : Option (ℕ × List ℕ) → Option Context → Option Session
session_of None root = None
session_of (Some up) root = session_under up.1 root

abbrev pub session_at : Site → Option Session
session_at s = session_of (up_at s) (root_context s.mount)

-- the session in which the server calls back under a context
abbrev pub is_number : Option ℕ → ℕ → Bool
is_number None context = false
is_number (Some number) context = number == context

abbrev pub calls_back : ℕ → Site → Option (List ℕ)
calls_back context s = if is_number s.back context then session_in (setup_in s.mount.standing) else None

-- ---- open files

abbrev pub open_in : ℕ → List OpenFile → Option OpenFile
open_in file files = find (λ opened_file. opened_file.file == file) files

abbrev pub file_at : ℕ → Site → Option OpenFile
file_at file s = open_in file s.files

abbrev pub with_file : OpenFile → Site → Site
with_file opened_file s = record s { files = s.files ++ opened_file ∷ [] }
