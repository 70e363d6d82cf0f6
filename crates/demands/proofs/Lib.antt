-- What is said holds: of the code, Press, Weigh, Test and Mend, also with dead lines; of strikes, Open, Pull, Read, Length, Worn, Write and
-- Size; of wear; of levels on the cable; and of written books
pub mod CardDemands
pub mod BookDemands
pub mod WearDemands
pub mod CableDemands
pub mod WrittenBooks
