mod PriceExamples
