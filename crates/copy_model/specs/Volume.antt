-- Files and volumes, as the promise speaks of them. Own definitions; the change attribute is that of
-- RFC 8881 section 5.8.1.4, COMMIT that of RFC 8881 section 18.3.
use Rattle.std.specs.Prelude.{ℕ, ◌+◌, ◌*◌, ◌^◌, Bool, true, false, Option, None, Some, List, [], ◌∷◌, ◌++◌, length, take, drop, map, replicate, slice_index, slice_index_or, slice_set}

-- A file: the bytes that a read gives now, and those that a crash would leave (safe). Both lists are
-- followed by zeros without end. Each has the change attribute that belongs to it.
pub record File : Type 0 where
  pub now : List ℕ
  pub safe : List ℕ
  pub change : ℕ
  pub safe_change : ℕ

-- What a commit that failed was making safe: one file's bytes and change attribute. A crash may
-- leave these, or the file's safe bytes.
pub record Doubt : Type 0 where
  pub file : ℕ
  pub bytes : List ℕ
  pub change : ℕ

-- A volume. Its files go by number; number 0 is the root directory, which holds no bytes. Each file
-- holds up to capacity bytes. boot is the number of this opening, writes the number of writes in it.
-- A volume is broken from a failed write or commit on, until a crash.
pub record Volume : Type 0 where
  pub files : List File
  pub capacity : ℕ
  pub boot : ℕ
  pub writes : ℕ
  pub broken : Bool
  pub doubt : Option Doubt

-- a file that was never written
abbrev pub no_file : File
no_file = record { now = []; safe = []; change = 0; safe_change = 0 }

-- a volume of this many files, just formatted and opened
abbrev pub formatted : ℕ → ℕ → Volume
formatted files capacity =
    record {
      files = replicate (files + 1) no_file;
      capacity = capacity;
      boot = 1;
      writes = 0;
      broken = false;
      doubt = None;
    }

-- the file of this number; one that isn't there holds no bytes
abbrev pub file_at : Volume → ℕ → File
file_at v file = slice_index_or v.files file no_file

-- the byte at a place, 0 past the end
abbrev pub byte_at : List ℕ → ℕ → ℕ
byte_at bytes place = slice_index bytes place

-- len bytes from off on, zeros past the end
abbrev pub bytes_at : List ℕ → ℕ → ℕ → List ℕ
bytes_at bytes off len = take len (drop off bytes ++ replicate len 0)

-- the bytes with these at off. A gap before them is filled with zeros
abbrev pub with_bytes_at : List ℕ → ℕ → List ℕ → List ℕ
with_bytes_at bytes off piece = take off (bytes ++ replicate off 0) ++ (piece ++ drop (off + length piece) bytes)

-- the change attribute of the n-th write of an opening
abbrev pub change_of : ℕ → ℕ → ℕ
change_of boot n = boot * 2 ^ 32 + n

-- a file with these bytes at off, and the change attribute of that write
abbrev pub written : File → ℕ → List ℕ → ℕ → File
written f off piece change = record f { now = with_bytes_at f.now off piece; change = change }

-- A write that the volume takes: whoever writes tests the capacity, and that the volume is not broken. One
-- of no bytes changes nothing.
abbrev pub write : Volume → ℕ → ℕ → List ℕ → Volume
write v file off [] = v
write v file off (b ∷ bs) =
    record v {
      files = slice_set v.files file (written (file_at v file) off (b ∷ bs) (change_of v.boot (v.writes + 1)));
      writes = v.writes + 1;
    }

-- a file whose bytes are all safe
abbrev pub committed : File → File
committed f = record f { safe = f.now; safe_change = f.change }

-- a commit makes all of one file safe
abbrev pub commit : Volume → ℕ → Volume
commit v file = record v { files = slice_set v.files file (committed (file_at v file)) }

-- a write that failed
abbrev pub fail_write : Volume → Volume
fail_write v = record v { broken = true }

-- a commit that failed: a crash may leave the bytes that it was making safe, or those before it
abbrev pub fail_commit : Volume → ℕ → Volume
fail_commit v file =
    record v {
      broken = true;
      doubt = Some (record { file = file; bytes = (file_at v file).now; change = (file_at v file).change });
    }

-- which bytes of the doubted file a crash leaves
pub data Kept : Type 0 where
  Old : Kept
  New : Kept

-- the files with the doubt settled
abbrev pub settled : List File → Option Doubt → Kept → List File
settled files None kept = files
settled files (Some d) Old = files
settled files (Some d) New =
    slice_set files d.file (record (slice_index_or files d.file no_file) { safe = d.bytes; safe_change = d.change })

-- a file after a crash: its safe bytes are all that is left
abbrev pub recovered : File → File
recovered f = record f { now = f.safe; change = f.safe_change }

-- a crash, and the opening after it
abbrev pub crash : Volume → Kept → Volume
crash v kept =
    record {
      files = map recovered (settled v.files v.doubt kept);
      capacity = v.capacity;
      boot = v.boot + 1;
      writes = 0;
      broken = false;
      doubt = None;
    }
