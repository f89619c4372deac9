use Rattle.dest_laws.proofs.landings.Shown.{failure_shown, rest_shown, step_shown, tick_shown}
use Rattle.dest_laws.proofs.landings.VolumeCalls.{reply_goes, work_goes}
use Rattle.dest_laws.proofs.landings.volumes.volumes_go_on.Goals as goal

pub returns : goal.returns
returns g c = record {
  work = λ spell meaning s k took speaker executed started codes place now d before after t shows is well few.
      step_shown spell meaning s k took speaker executed d t shows (work_goes _ started codes place now d before after t is) well few;
  reply = λ spell meaning s k took speaker executed codes finish place message now d t shows is well few.
      step_shown spell meaning s k took speaker executed d t shows (reply_goes codes finish place message now d t is) well few;
  failure = λ spell meaning s k took speaker executed codes place d shows. failure_shown spell meaning s k took speaker executed d codes place shows;
  tick = λ spell meaning s k took speaker executed codes now d shows. tick_shown spell meaning s k took speaker executed d codes now shows;
  rest = rest_shown;
}
