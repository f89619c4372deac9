use Rattle.run_ends.specs.Ends.{count_gives, words_of}
use Rattle.run_promise.proofs.serving.SourceCalls.{silent_caller}
use Rattle.run_promise.proofs.serving.servers.sources_call_nobody.Goals as goal

pub returns : goal.returns
returns g c first steps accepts whose seen purposes lawful =
    let k = g.M.Mechanism in
    silent_caller (words_of k.mic_of k.derived k.started k.accepted k.finished count_gives) _ _ _ seen first steps purposes lawful
