-- The commands, each a fixed list of words; a word that begins with `-` is of none. Own format.
use Rattle.std.specs.Prelude.{ℕ, ◌^◌, ◌&&◌, ◌==◌, Bool, true, false, not, nat_le, Option, None, Some, option_map, List, [], ◌∷◌, codes, if◌then◌else◌}
use Rattle.std.specs.Str.{bytes_eq}
use Rattle.linked_copy.specs.declared.copying.CopyOrder.{CopyOrder}
use Rattle.nfs_base.specs.declared.copy_spec.CopySpec.{CopySpec}
use Rattle.volume_format.specs.Shapes.{Numbers, new_volume}
use Rattle.wire_schedule.specs.Grammar.{consecutive_of}
use Rattle.wire_schedule.specs.Numerals.{◌>>=◌, number_below, number_of}
use Rattle.command_line.specs.declared.command.Command.{Command}
use Rattle.nfs_base.specs.declared.side.Side.TheVariants.{Source, Dest}
use Rattle.command_line.specs.declared.command.Asked.{Asked}
use Rattle.command_line.specs.declared.command.Command.TheVariants.{Run, Show, Gen, Format, ServeSource, ServeDest, Copy}
use Rattle.command_line.specs.declared.command.DestOrder.{DestOrder}
use Rattle.command_line.specs.declared.command.Service.{Service}
use Rattle.command_line.specs.declared.command.TheConstants.{MOST_CONNS}

-- a number of 1 to 64
unfoldable pub mebibytes_of : List ℕ → Option ℕ
mebibytes_of word = do
  n ← number_of word
  if nat_le 1 n && nat_le n 64 then Some n else None

-- whether a word can be a path: `-` is 45
abbrev pub is_path : List ℕ → Bool
is_path [] = true
is_path (byte ∷ bytes) = not (byte == 45)

-- the volume of three words
unfoldable pub volume_of : (files blocks tag : List ℕ) → Option Numbers
volume_of files blocks tag = do
  f ← number_below (2 ^ 32) files
  b ← number_below (2 ^ 32) blocks
  t ← number_of tag
  new_volume f b t

-- `format`, without its first word
unfoldable pub format_of : (path files blocks tag : List ℕ) → Option Command
format_of path files blocks tag = if is_path path then option_map Format (volume_of files blocks tag) else None

-- a port of this machine, and 1 to 1,000,000 connections
abbrev pub is_service : (port conns : ℕ) → Bool
is_service port conns = nat_le 1 port && (nat_le port 65535 && (nat_le 1 conns && nat_le conns MOST_CONNS))

unfoldable pub service_of : (port conns : List ℕ) → Option Service
service_of port conns = do
  p ← number_below (2 ^ 32) port
  c ← number_below (2 ^ 32) conns
  if is_service p c then Some (record { port = p; conns = c }) else None

-- `serve-source`, without its first word
unfoldable pub serve_source_of : (path port conns : List ℕ) → Option Command
serve_source_of path port conns = if is_path path then option_map ServeSource (service_of port conns) else None

-- a port of this machine
unfoldable pub port_of : List ℕ → Option ℕ
port_of word = do
  p ← number_below (2 ^ 32) word
  if nat_le 1 p && nat_le p 65535 then Some p else None

-- 1 to 8 workers
unfoldable pub workers_of : List ℕ → Option ℕ
workers_of word = do
  w ← number_below (2 ^ 32) word
  if nat_le 1 w && nat_le w 8 then Some w else None

unfoldable pub dest_order_of : (port conns workers source : List ℕ) → Option DestOrder
dest_order_of port conns workers source = do
  s ← service_of port conns
  w ← workers_of workers
  p ← port_of source
  Some (record { service = s; workers = w; source_port = p })

-- `serve-dest`, without its first word
unfoldable pub serve_dest_of : (path port conns workers source : List ℕ) → Option Command
serve_dest_of path port conns workers source =
    if is_path path then option_map ServeDest (dest_order_of port conns workers source) else None

-- a file's number, which is 1 or more
unfoldable pub file_of : List ℕ → Option ℕ
file_of word = do
  f ← number_below (2 ^ 32) word
  if nat_le 1 f then Some f else None

-- what is copied, by six words
unfoldable pub copy_spec_of : (src_file src_off dst_file dst_off count consecutive : List ℕ) → Option CopySpec
copy_spec_of src_file src_off dst_file dst_off count consecutive = do
  s ← file_of src_file
  from ← number_of src_off
  d ← file_of dst_file
  to ← number_of dst_off
  n ← number_of count
  c ← consecutive_of consecutive
  Some (record { src_file = s; src_off = from; dst_file = d; dst_off = to; count = n; consecutive = c })

-- a copy, and the ports at which its servers are found
unfoldable pub copy_order_of : (source dest : List ℕ) → CopySpec → Option CopyOrder
copy_order_of source dest copy = do
  s ← port_of source
  d ← port_of dest
  Some (record { source_port = s; dest_port = d; copy = copy })

-- `copy`, without its first word
abbrev pub copy_of : (source dest src_file src_off dst_file dst_off count consecutive : List ℕ) → Option Command
copy_of source dest src_file src_off dst_file dst_off count consecutive = do
  copy ← copy_spec_of src_file src_off dst_file dst_off count consecutive
  option_map Copy (copy_order_of source dest copy)

-- ---- the words of a command, by how many they are

abbrev pub of_one : List ℕ → Option Command
of_one word =
    if bytes_eq word (codes "run") then Some Run
    else if bytes_eq word (codes "show") then Some Show
    else None

abbrev pub of_two : (word number : List ℕ) → Option Command
of_two word number = if bytes_eq word (codes "gen") then option_map Gen (mebibytes_of number) else None

abbrev pub of_four : (word path port conns : List ℕ) → Option Command
of_four word path port conns = if bytes_eq word (codes "serve-source") then serve_source_of path port conns else None

abbrev pub of_five : (word path files blocks tag : List ℕ) → Option Command
of_five word path files blocks tag = if bytes_eq word (codes "format") then format_of path files blocks tag else None

abbrev pub of_six : (word path port conns workers source : List ℕ) → Option Command
of_six word path port conns workers source =
    if bytes_eq word (codes "serve-dest") then serve_dest_of path port conns workers source else None

abbrev pub of_nine : (word source dest src_file src_off dst_file dst_off count consecutive : List ℕ) → Option Command
of_nine word source dest src_file src_off dst_file dst_off count consecutive =
    if bytes_eq word (codes "copy") then copy_of source dest src_file src_off dst_file dst_off count consecutive else None

abbrev pub command_of : List (List ℕ) → Option Command
command_of (word ∷ []) = of_one word
command_of (word ∷ number ∷ []) = of_two word number
command_of (word ∷ path ∷ port ∷ conns ∷ []) = of_four word path port conns
command_of (word ∷ path ∷ files ∷ blocks ∷ tag ∷ []) = of_five word path files blocks tag
command_of (word ∷ path ∷ port ∷ conns ∷ workers ∷ source ∷ []) = of_six word path port conns workers source
command_of (word ∷ source ∷ dest ∷ src_file ∷ src_off ∷ dst_file ∷ dst_off ∷ count ∷ consecutive ∷ []) =
    of_nine word source dest src_file src_off dst_file dst_off count consecutive
command_of words = None

-- whether a command makes a volume on the disk of a file
abbrev pub is_format : Option Command → Bool
is_format (Some (Format v)) = true
is_format (Some Run) = false
is_format (Some Show) = false
is_format (Some (Gen mebibytes)) = false
is_format (Some (ServeSource s)) = false
is_format (Some (ServeDest o)) = false
is_format (Some (Copy o)) = false
is_format None = false

-- whether a command makes a copy by a client of two servers
abbrev pub is_copy : Option Command → Bool
is_copy (Some (Copy o)) = true
is_copy (Some Run) = false
is_copy (Some Show) = false
is_copy (Some (Gen mebibytes)) = false
is_copy (Some (Format v)) = false
is_copy (Some (ServeSource s)) = false
is_copy (Some (ServeDest o)) = false
is_copy None = false

-- which server a command asks for, and where it listens
abbrev pub service_in : Option Command → Option Asked
service_in (Some (ServeSource s)) = Some (record { side = Source; service = s })
service_in (Some (ServeDest o)) = Some (record { side = Dest; service = o.service })
service_in (Some Run) = None
service_in (Some Show) = None
service_in (Some (Gen mebibytes)) = None
service_in (Some (Format v)) = None
service_in (Some (Copy o)) = None
service_in None = None

-- whether a command serves the connections of a net, or dials it
abbrev pub is_on_net : Option Command → Bool
is_on_net None = false
is_on_net (Some Run) = false
is_on_net (Some Show) = false
is_on_net (Some (Gen mebibytes)) = false
is_on_net (Some (Format v)) = false
is_on_net (Some (ServeSource s)) = true
is_on_net (Some (ServeDest o)) = true
is_on_net (Some (Copy o)) = true
