use Rattle.volume_laws.proofs.Answered.{commit_went, read_went, room_goes, whole_goes, write_went}
use Rattle.volume_laws.proofs.laws.sound_disks_have_no_faults.Goals as goal

pub returns : goal.returns
returns c = record {
  read = read_went;
  write = write_went;
  commit = commit_went;
  room = room_goes;
  whole = λ s. whole_goes s.volume.broken;
}
