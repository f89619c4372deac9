-- Handles of the files of a volume (own layout: the volume's tag and the file's number), and what is wrong with others.
-- RFC 8881 sections 4 and 18.19.
use Rattle.std.specs.Prelude.{ℕ, ◌==◌, ◌++◌, List, length, take, drop, Option, Some, None, Result, Ok, Err, nat_le, if◌then◌else◌}
use Rattle.std.specs.Int.{w32, w64, from_be_bytes}
use Rattle.nfs_base.specs.declared.status.Status.{Status}
use Rattle.nfs_base.specs.declared.status.TheConstants.Status.{BADHANDLE, STALE, NOFILEHANDLE, ISDIR}
use Rattle.wire_xdr.specs.Words.{word_bytes, hyper_bytes}
use Rattle.server_volume.specs.Store.{Store}

-- the handle of a file, by the volume's tag; file 0 is the root directory
unfoldable pub file_handle : (tag file : ℕ) → List ℕ
file_handle tag file = hyper_bytes tag ++ word_bytes file

-- the tag and the file's number in the bytes of a handle
abbrev pub tag_in : List ℕ → ℕ
tag_in bytes = from_be_bytes w64 (take 8 (drop 0 bytes))

abbrev pub file_in : List ℕ → ℕ
file_in bytes = from_be_bytes w32 (take 4 (drop 8 bytes))

-- The file that a handle names, of so many with the root, at a volume with this tag. BADHANDLE: it isn't one that
-- such a volume makes. STALE: it is one of another volume.
abbrev pub handle_file : (files tag : ℕ) → List ℕ → Result ℕ Status
handle_file files tag bytes =
    if length bytes == 12 then
    (if nat_le files (file_in bytes) then Err BADHANDLE else (if tag_in bytes == tag then Ok (file_in bytes) else Err STALE))
    else Err BADHANDLE

-- the file that is current, of a store
abbrev pub current_file : Store → Option (List ℕ) → Result ℕ Status
current_file s None = Err NOFILEHANDLE
current_file s (Some bytes) = handle_file (length s.volume.files) s.tag bytes

-- a file that isn't the root
abbrev pub unless_root : Result ℕ Status → Result ℕ Status
unless_root (Ok file) = if file == 0 then Err ISDIR else Ok file
unless_root (Err status) = Err status

-- READ, WRITE and COMMIT take a file that holds bytes
abbrev pub byte_file : Store → Option (List ℕ) → Result ℕ Status
byte_file s current = unless_root (current_file s current)
