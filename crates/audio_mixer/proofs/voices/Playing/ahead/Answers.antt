use Rattle.audio_mixer.proofs.voices.Playing.ahead.Goals as goal
use Rattle.audio_mixer.proofs.Ages.{ahead-some, ahead-none}

pub returns-in-Some-clause-some : goal.returns-in-Some-clause-some
returns-in-Some-clause-some c = λ age plays.
    ahead-some c.args.self.now age _ _ _ plays c.carried-carry.ensures.quotient c.carried-carry.ensures.rest c.in-Some.ensures.some c.in-Some.ensures.within

pub returns-in-None-clause-none : goal.returns-in-None-clause-none
returns-in-None-clause-none c = λ age plays.
    ahead-none c.args.self.now age _ plays c.carried-carry.ensures.quotient c.in-None.ensures.once c.in-None.ensures.over
